use Rattle.text.specs.TextsShown.{bytes_of_words}
use Rattle.rehearse_machine.proofs.OutcomeLemmas.{AreSet}
use Rattle.rehearse_machine.proofs.outcomes.set_all.Given as goal

abbrev pub invariant-loop-set : goal.invariant-loop-set
invariant-loop-set g l = AreSet (bytes_of_words l.words) l.sets l.set-index (g.S.Store.record_of l.initial.store) (g.S.Store.record_of l.store)
