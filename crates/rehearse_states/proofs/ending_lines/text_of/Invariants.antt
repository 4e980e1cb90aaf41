use Rattle.std.proofs.Common.{◌≡◌, flat_map, take, map}
use Rattle.rehearse_states.specs.Drawing.{failing_on, nodes_shown}
use Rattle.rehearse_states.specs.RowsShown.{row_shown}
use Rattle.rehearse_states.specs.EndingLines.{row_lines}
use Rattle.rehearse_states.proofs.ending_lines.text_of.Given as goal

-- the lines of the rows so far
abbrev pub invariant-loop-row : goal.invariant-loop-row
invariant-loop-row l = l.text.items ≡ flat_map (row_lines (map (λ n. n.now) l.names) (failing_on l.devices (nodes_shown l.fn.nodes))) (map row_shown (take l.row-index l.row-items))
