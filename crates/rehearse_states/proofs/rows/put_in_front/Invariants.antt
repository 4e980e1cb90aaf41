use Rattle.std.proofs.Common.{◌≡◌, map}
use Rattle.rehearse_rules.specs.Execution.{outcome_when}
use Rattle.rehearse_states.specs.RowsShown.{row_shown}
use Rattle.rehearse_states.specs.Endings.{in_front, counts_at}
use Rattle.rehearse_states.proofs.rows.put_in_front.Given as goal

abbrev pub invariant-loop-row : goal.invariant-loop-row
invariant-loop-row l = map row_shown l.made.items ≡ map (in_front (outcome_when l.success) (counts_at l.fn.expected (outcome_when l.success))) (map row_shown l.yielded)
