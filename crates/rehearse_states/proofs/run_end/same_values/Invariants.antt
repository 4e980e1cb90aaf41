use Rattle.std.proofs.Common.{◌≡◌, length, map}
use Rattle.std.specs.Iterator.Adapters.{zip_first, zip_second}
use Rattle.std.specs.Slice.Iter.{iter_rest}
use Rattle.rehearse_states.specs.Endings.{values_eq}
use Rattle.rehearse_states.specs.RowsShown.{value_shown}
use Rattle.rehearse_states.proofs.run_end.same_values.Given as goal

-- what is left is equally long, and the same if all values are the same
abbrev pub invariant-loop-x : goal.invariant-loop-x
invariant-loop-x l =
    let xs = iter_rest (zip_first l.x-iterator) in
    let ys = iter_rest (zip_second l.x-iterator) in
    (length xs ≡ length ys) × (values_eq (map value_shown l.a) (map value_shown l.b) ≡ values_eq (map value_shown xs) (map value_shown ys))
