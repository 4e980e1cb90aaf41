use Rattle.std.proofs.Common.{refl, ◌+◌}
use Rattle.bootstore_state.specs.Present.{moment_of}
use Rattle.bootstore_trail.proofs.TrailLemmas.{marked_status, same_record}
use Rattle.bootstore_trail.proofs.trail.TrailStore.count_steps.Goals as goal

pub returns-clause-ok : goal.returns-clause-ok
returns-clause-ok c =
    let old = c.args.self.now in
    same_record _ _ _ _ (old.begun + c.args.count) refl (marked_status (moment_of old.present) _ _ old.can.leads old.present.status (old.present.steps + c.args.count))
