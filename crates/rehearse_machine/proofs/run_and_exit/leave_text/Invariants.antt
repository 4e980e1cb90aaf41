use Rattle.std.proofs.Common.{◌≡◌, length}
use Rattle.rehearse_terms.specs.Outcomes.{OutcomeWord}
use Rattle.bootstore_state.specs.StoredState.{state_at}
use Rattle.rehearse_machine.specs.MovesShown.{Keeps}
use Rattle.rehearse_machine.proofs.PlaceMoves.{LeavesAs}
use Rattle.rehearse_machine.proofs.run_and_exit.leave_text.Given as goal

abbrev pub invariant-frames : goal.invariant-frames
invariant-frames g l = LeavesAs l.shell (g.S.Store.record_of l.store).present.frames (g.S.Store.record_of l.initial.store).present.frames × ((w : OutcomeWord) → state_at (g.S.Store.record_of l.store).present w ≡ state_at (g.S.Store.record_of l.initial.store).present w) × Keeps (g.S.Store.record_of l.initial.store) (g.S.Store.record_of l.store)

abbrev pub decreases-frames : goal.decreases-frames
decreases-frames g l = length (g.S.Store.record_of l.store).present.frames
