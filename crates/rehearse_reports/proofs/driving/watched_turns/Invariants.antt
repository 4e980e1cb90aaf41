use Rattle.std.proofs.Common.{◌-◌, ◌≡◌, ◌≤◌}
use Rattle.bootstore_state.specs.Present.{moment_of}
use Rattle.rehearse_machine.specs.MovesShown.{limits_of}
use Rattle.rehearse_machine.specs.Turning.{Comes_on}
use Rattle.rehearse_reports.specs.Looping.{LeadsAbove}
use Rattle.rehearse_reports.specs.ReportsShown.{accesses_shown}
use Rattle.rehearse_reports.proofs.driving.watched_turns.Given as goal

abbrev pub invariant-turns : goal.invariant-turns
invariant-turns g l =
    Comes_on (limits_of l.devices l.bounds) (g.S.Store.record_of l.fn.store) (g.S.Store.record_of l.store)
    × LeadsAbove (limits_of l.devices l.bounds) l.fewest (g.S.Store.record_of l.fn.store).present (g.S.Store.record_of l.store).present (accesses_shown l.fn.reported) (accesses_shown l.reported)
    × (moment_of l.first ≡ (g.S.Store.record_of l.fn.store).present)
    × (l.fewest ≤ l.fn.fewest)

abbrev pub decreases-turns : goal.decreases-turns
decreases-turns g l = l.bounds.steps - (g.S.Store.record_of l.store).present.steps
