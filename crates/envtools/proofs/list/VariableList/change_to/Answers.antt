use Rattle.std.proofs.Common.{map, List, sym, subst}
use Rattle.envimage.specs.Data.{Pair}
use Rattle.envimage.specs.Entries.{pair_at}
use Rattle.envtools.specs.Environment.{IsEnvironment}
use Rattle.envtools.specs.Listed.{IsPlaceOf}
use Rattle.envtools.proofs.EnvLemmas.{IsEnvironment-dropped}
use Rattle.envtools.proofs.ListLemmas.{put-environment}
use Rattle.envtools.proofs.list.VariableList.change_to.Goals as goal

pub invariant_of-self : goal.invariant_of-self
invariant_of-self c =
    let P : List Pair → Type 0 = λ ps. IsEnvironment ps in
    let ps : List Pair = map pair_at c.self.inside.pairs.items in
    let place : IsPlaceOf ps c.args.name.now c.place_of-place.result = subst (λ xs. IsPlaceOf (map pair_at xs) c.args.name.now c.place_of-place.result) c.deref.ensures.value c.place_of-place.ensures in
    subst P (sym (c.remove_at.ensures c.args.name.now place)) (IsEnvironment-dropped ps c.args.name.now c.self.invariant)

pub invariant_of-self-2 : goal.invariant_of-self-2
invariant_of-self-2 c =
    put-environment c.put_at.result c.self.inside.pairs.items c.put_at.new.pairs.items c.args.name.now c.args.value.now c.requires.name c.requires.value c.self.invariant c.put_at.ensures.ok c.put_at.ensures.err
