use Rattle.std.proofs.Common.{◌≡◌, ◌++◌, map, []}
use Rattle.rehearse_rules.specs.Execution.{outcome_when}
use Rattle.rehearse_states.specs.Repeats.{repeated}
use Rattle.rehearse_states.proofs.run_word.add_again.Given as goal

-- the outcomes so far
abbrev pub invariant-loop-time : goal.invariant-loop-time
invariant-loop-time l = map outcome_when l.outcomes.items ≡ map outcome_when l.fn.outcomes.items ++ repeated l._time (outcome_when l.success) []
