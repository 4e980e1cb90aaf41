use Rattle.std.proofs.Common.{List, map, sym, ap, ◌∙◌}
use Rattle.hushlang.specs.TreesShown as view
use Rattle.hushlang.specs.declared.tree.AndOr.{AndOr}
use Rattle.hushlang.proofs.ViewLemmas.{script_out}
use Rattle.rehearse_states.specs.PlaceNumbers.{mixed_script}
use Rattle.rehearse_states.proofs.hashing.mix_script.Goals as goal

pub returns : goal.returns
returns c =
    c.mix_lists.ensures
    ∙ ap (λ (ls : List AndOr). mixed_script c.args.hash (view.runs (map view.list ls))) c.deref.ensures.value
    ∙ sym (ap (mixed_script c.args.hash) (script_out c.args.script.now))
