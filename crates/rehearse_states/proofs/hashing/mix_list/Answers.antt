use Rattle.std.proofs.Common.{ℕ, sym, ap, ◌∙◌, ◌≡◌, length, rules}
use Rattle.std.specs.Vec.{vec_len}
use Rattle.hushlang.specs.TreesShown as view
use Rattle.rehearse_states.specs.PlaceNumbers.{mixed, mixed_command}
use Rattle.rehearse_states.proofs.PlaceNumberLemmas.{list_number}
use Rattle.rehearse_states.proofs.hashing.mix_list.Goals as goal

pub returns : goal.returns
returns c =
    let items : vec_len c.args.list.now.rest ≡ length c.args.list.now.rest.items = search rules in
    c.mix_command.ensures
    ∙ ap (λ (n : ℕ). mixed_command n (view.command c.args.list.now.first)) (c.mix-mixed.ensures ∙ ap (mixed c.args.hash) (c.len.ensures ∙ items))
    ∙ sym (list_number c.args.hash c.args.list.now)
