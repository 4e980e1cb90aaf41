use Rattle.std.proofs.Common.{take, ◌≡◌, map}
use Rattle.rehearse_states.specs.RowsShown.{row_shown}
use Rattle.rehearse_states.proofs.rows.copy_rows.Given as goal

abbrev pub invariant-loop-row : goal.invariant-loop-row
invariant-loop-row l = map row_shown l.copies.items ≡ map row_shown (take l.row-index l.row-items)
