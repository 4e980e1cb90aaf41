use Rattle.std.proofs.Common.{ℕ, List, [], ◌∷◌, map, length, sym, ap, ◌∙◌}
use Rattle.hushlang.specs.TreesShown as view
use Rattle.hushlang.specs.declared.tree.AndOr.{AndOr}
use Rattle.rehearse_states.specs.PlaceNumbers.{mixed, mixed_list, mixed_script}
use Rattle.rehearse_states.proofs.PlaceNumberLemmas.{first_number, no_number}
use Rattle.rehearse_states.proofs.hashing.mix_lists.Goals as goal

pub returns-in-None : goal.returns-in-None
returns-in-None c = c.mix-mixed.ensures ∙ no_number c.args.hash c.args.lists.now c.in-None.ensures.cases

pub returns-in-Some : goal.returns-in-Some
returns-in-Some c =
    let first = c.in-Some.first.now in
    let lists = c.args.lists.now in
    let is = c.in-Some.ensures.cases.0 in
    c.mix_list.ensures
    ∙ ap (λ (n : ℕ). mixed_list n (view.list first)) (c.mix-mixed.ensures ∙ ap (λ (ls : List AndOr). mixed c.args.hash (length ls)) is)
    ∙ sym (first_number c.args.hash first c.in-Some.field-0-1.now)
    ∙ sym (ap (λ (ls : List AndOr). mixed_script c.args.hash (view.runs (map view.list ls))) is)
