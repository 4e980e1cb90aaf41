use Rattle.std.proofs.Common.{◌≡◌, ◌++◌, map, take}
use Rattle.rehearse_rules.specs.Execution.{outcome_when}
use Rattle.rehearse_rules.specs.Listing.{outcome_digit}
use Rattle.rehearse_states.proofs.ending_lines.put_outcomes.Given as goal

-- the digits so far
abbrev pub invariant-loop-success : goal.invariant-loop-success
invariant-loop-success l = l.text.items ≡ l.initial.text.items ++ map outcome_digit (map outcome_when (take l.success-index l.outcomes))
