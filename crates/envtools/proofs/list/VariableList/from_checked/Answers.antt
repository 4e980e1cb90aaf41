use Rattle.std.proofs.Common.{◌∙◌, map, List, [], ap, sym, subst}
use Rattle.envimage.specs.Data.{Pair, pairs_of}
use Rattle.envimage.specs.Entries.{pair_at}
use Rattle.envimage.proofs.FaultLemmas.{faultless_is_data}
use Rattle.envtools.specs.Environment.{IsEnvironment}
use Rattle.envtools.proofs.ListLemmas.{env_of-distinct, env_of-environment}
use Rattle.envtools.proofs.list.VariableList.from_checked.Goals.{then-branch+in_ok-pairs, else-branch+in_ok-of_data+in_ok-pairs-2}
use Rattle.envtools.proofs.list.VariableList.from_checked.Goals as goal

pub returns : goal.returns
returns c = elim c.if-branch.branch [
  | then-branch+in_ok-pairs w ↦
      ap (λ pairs. map pair_at pairs.items) w.pairs-is ∙ w.in_ok-pairs.ensures
      ∙ sym (env_of-distinct (pairs_of c.args.body.now) (c.in_ok-are_distinct.ensures.distinct w.if-branch.true))
  | else-branch+in_ok-of_data+in_ok-pairs-2 w ↦
      ap (λ pairs. map pair_at pairs.items) w.pairs-is ∙ (w.in_ok-pairs-2.ensures.pairs ∙ w.in_ok-of_data.ensures)
]

pub invariant_of-result : goal.invariant_of-result
invariant_of-result c =
    let P : List Pair → Type 0 = λ ps. IsEnvironment ps in
    subst P (sym (returns c)) (env_of-environment (pairs_of c.args.body.now) (faultless_is_data c.args.body.now c.requires).each)
