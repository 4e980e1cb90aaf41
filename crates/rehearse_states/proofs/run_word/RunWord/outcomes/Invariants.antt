use Rattle.std.proofs.Common.{◌≡◌, ◌++◌, map, length}
use Rattle.rehearse_rules.specs.Execution.{outcome_when}
use Rattle.rehearse_states.proofs.run_word.RunWord.outcomes.Given as goal

-- the outcomes so far, and those to come
abbrev pub invariant-loop-success : goal.invariant-loop-success
invariant-loop-success l = map outcome_when l.outcomes.items ++ l.left ≡ l.self

abbrev pub decreases-loop-success : goal.decreases-loop-success
decreases-loop-success l = length l.left
