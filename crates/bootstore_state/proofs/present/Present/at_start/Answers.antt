use Rattle.std.proofs.Common.{◌≡◌, ap, sym, Some}
use Rattle.std.specs.List.{slice_get}
use Rattle.bootstore_state.specs.Moment.{Moment}
use Rattle.bootstore_state.specs.Table.{variables_of}
use Rattle.bootstore_state.proofs.TableLemmas.{set_next}
use Rattle.bootstore_state.proofs.PresentLemmas.{nothing_with}
use Rattle.bootstore_state.proofs.present.Present.at_start.Goals as goal

pub loop-place-preserved : goal.loop-place-preserved
loop-place-preserved c =
    let pair = c.unwrap.result in
    let there : slice_get c.args.env.now c.loop-place.place ≡ Some (pair.0.now, pair.1.now) = let e = c.pair.ensures in rw c.unwrap.ensures at (sym e) in
    record {
      environment = set_next _ _ _ c.args.env.now c.loop-place.place pair.0.now pair.1.now there c.in_ok-set.ensures.ok c.loop-place.invariant.environment;
      others = ap (λ (m : Moment). record m { environment = variables_of c.set.new.self }) c.loop-place.invariant.others;
      kept = nothing_with c.loop-place.present.environment c.set.new.self pair.0.now c.loop-place.invariant.kept c.in_ok-set.ensures.kept;
      kept_locals = c.loop-place.invariant.kept_locals;
    }
