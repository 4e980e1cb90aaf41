use Rattle.std.proofs.Common.{true, false, ◌++◌, ◌≡◌, map}
use Rattle.rehearse_states.specs.RowsShown.{row_shown, with_row_up}
use Rattle.rehearse_states.proofs.rows.put_row.Given as goal

abbrev pub invariant-loop-old : goal.invariant-loop-old
invariant-loop-old l =
    elim l.is_there [
      | true ↦ map row_shown l.made.items ++ map row_shown l.old-iterator.rest.items ≡ with_row_up (map row_shown l.fn.rows.items) (row_shown l.row)
      | false ↦ map row_shown l.made.items ++ with_row_up (map row_shown l.old-iterator.rest.items) (row_shown l.row) ≡ with_row_up (map row_shown l.fn.rows.items) (row_shown l.row)
    ]
