use Rattle.std.proofs.Common.{◌≤◌}
use Rattle.rehearse_machine.specs.MovesShown.{limits_of}
use Rattle.rehearse_machine.specs.Turning.{Waits, moves_left}
use Rattle.rehearse_machine.specs.declared.ask.Step.TheVariants as steps
use Rattle.rehearse_reports.specs.Looping.{MovesAbove}
use Rattle.rehearse_reports.specs.ReportsShown.{accesses_shown}
use Rattle.rehearse_reports.proofs.driving.reported_turn.Given as goal

abbrev pub invariant-moves : goal.invariant-moves
invariant-moves g l =
    Waits (limits_of l.devices l.bounds) (g.S.Store.record_of l.initial.store) (g.S.Store.record_of l.store)
    × MovesAbove (limits_of l.devices l.bounds) l.fewest (g.S.Store.record_of l.initial.store).present steps.Going (g.S.Store.record_of l.store).present (accesses_shown l.initial.reported) (accesses_shown l.reported)
    × (l.fewest ≤ l.initial.fewest)

abbrev pub decreases-moves : goal.decreases-moves
decreases-moves g l = moves_left (limits_of l.devices l.bounds) (g.S.Store.record_of l.store).present
