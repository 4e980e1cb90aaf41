use Rattle.std.proofs.Common.{◌≡◌, min, take, map}
use Rattle.rehearse_states.specs.RowsShown.{most_runs, row_shown}
use Rattle.rehearse_states.specs.EndingLines.{counted}
use Rattle.rehearse_states.proofs.ending_lines.total.Given as goal

-- the runs of the rows so far
abbrev pub invariant-loop-row : goal.invariant-loop-row
invariant-loop-row l = l.count ≡ min (counted (map row_shown (take l.row-index l.row-items))) most_runs
