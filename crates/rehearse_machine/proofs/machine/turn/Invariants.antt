use Rattle.rehearse_machine.specs.MovesShown.{limits_of}
use Rattle.rehearse_machine.specs.Turning.{Waits, moves_left}
use Rattle.rehearse_machine.proofs.machine.turn.Given as goal

abbrev pub invariant-moves : goal.invariant-moves
invariant-moves g l = Waits (limits_of l.devices l.bounds) (g.S.Store.record_of l.initial.store) (g.S.Store.record_of l.store)

abbrev pub decreases-moves : goal.decreases-moves
decreases-moves g l = moves_left (limits_of l.devices l.bounds) (g.S.Store.record_of l.store).present
