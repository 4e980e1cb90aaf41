use Rattle.std.proofs.Common.{◌-◌, ◌≤◌}
use Rattle.rehearse_machine.specs.MovesShown.{limits_of}
use Rattle.rehearse_machine.specs.Turning.{Comes_on}
use Rattle.rehearse_machine.specs.declared.ask.Step.TheVariants as steps
use Rattle.rehearse_reports.specs.Following.{FollowsAbove}
use Rattle.rehearse_reports.specs.ReportsShown.{accesses_shown}
use Rattle.rehearse_reports.proofs.driving.reported_drive.Given as goal

abbrev pub invariant-turns : goal.invariant-turns
invariant-turns g l =
    Comes_on (limits_of l.devices l.bounds) (g.S.Store.record_of l.initial.store) (g.S.Store.record_of l.store)
    × FollowsAbove (limits_of l.devices l.bounds) l.fewest (g.S.Store.record_of l.initial.store).present steps.Going (g.S.Store.record_of l.store).present (accesses_shown l.initial.reported) (accesses_shown l.reported)
    × (l.fewest ≤ l.initial.fewest)

abbrev pub decreases-turns : goal.decreases-turns
decreases-turns g l = l.bounds.steps - (g.S.Store.record_of l.store).present.steps
