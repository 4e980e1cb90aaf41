use Rattle.rehearse_states.proofs.flow.Flow.find.Given as goal

abbrev pub invariant-loop-place : goal.invariant-loop-place
invariant-loop-place l = Unit {0}
