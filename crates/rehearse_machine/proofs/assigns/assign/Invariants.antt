use Rattle.std.proofs.Common.{◌∷◌}
use Rattle.rehearse_machine.specs.Places.{behind}
use Rattle.rehearse_machine.specs.MovesShown.{under}
use Rattle.rehearse_machine.proofs.AssignLemmas.{AreAssigned}
use Rattle.rehearse_machine.proofs.assigns.assign.Given as goal

abbrev pub invariant-loop-value : goal.invariant-loop-value
invariant-loop-value g l = AreAssigned l.shell l.values l.value-index (behind l.frame ∷ under (g.S.Store.record_of l.initial.store).present) (g.S.Store.record_of l.initial.store) (g.S.Store.record_of l.store)
