use Rattle.std.proofs.Common.{◌≡◌, ◌++◌, map}
use Rattle.std.specs.Iterator.Adapters.{zip_first, zip_second}
use Rattle.std.specs.Slice.Iter.{iter_rest}
use Rattle.rehearse_states.specs.EndingLines.{value_lines}
use Rattle.rehearse_states.specs.RowsShown.{value_shown}
use Rattle.rehearse_states.proofs.value_lines.put_values.Given as goal

-- the lines so far, and after them those of what is left, are all lines
abbrev pub invariant-loop-name : goal.invariant-loop-name
invariant-loop-name l =
    l.text.items ++ value_lines (map (λ n. n.now) (iter_rest (zip_first l.name-iterator))) (map value_shown (iter_rest (zip_second l.name-iterator)))
    ≡ l.initial.text.items ++ value_lines (map (λ n. n.now) l.names) (map value_shown l.values)
