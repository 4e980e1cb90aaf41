use Rattle.std.proofs.Common.{map}
use Rattle.rehearse_states.specs.SumNodes.{sum_shown}
use Rattle.rehearse_states.specs.SumRows.{AreMade, made_shown}
use Rattle.rehearse_states.proofs.sum_rows.rows_of.Given as goal

-- the rows so far
abbrev pub invariant-loop-at : goal.invariant-loop-at
invariant-loop-at l = AreMade (map sum_shown l.nodes) l.last.items l.at (made_shown l.made)
