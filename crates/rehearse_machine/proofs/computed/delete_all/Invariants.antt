use Rattle.rehearse_machine.proofs.ComputedLemmas.{AreDeleted}
use Rattle.rehearse_machine.proofs.computed.delete_all.Given as goal

abbrev pub invariant-loop-name : goal.invariant-loop-name
invariant-loop-name g l = AreDeleted l.names l.name-index l.status (g.S.Store.record_of l.initial.store) (g.S.Store.record_of l.store)
