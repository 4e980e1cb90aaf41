use Rattle.std.proofs.Common.{◌≡◌, map}
use Rattle.rehearse_states.specs.RowsShown.{row_shown, merge_up}
use Rattle.rehearse_states.proofs.rows.merge_rows.Given as goal

abbrev pub invariant-loop-row : goal.invariant-loop-row
invariant-loop-row l = merge_up (map row_shown l.made.items) (map row_shown l.row-iterator.rest.items) ≡ merge_up (map row_shown l.fn.rows.items) (map row_shown l.fn.others.items)
