use Rattle.std.proofs.Common.{◌≡◌, map}
use Rattle.std.specs.Iterator.Adapters.{zip_first, zip_second}
use Rattle.std.specs.Slice.Iter.{iter_rest}
use Rattle.rehearse_boots.specs.Expecting.{value_left}
use Rattle.rehearse_states.specs.RowsShown.{value_shown}
use Rattle.rehearse_boots.proofs.way.value_left.Given as goal

-- the value among those that are left is the value among all
abbrev pub invariant-loop-other : goal.invariant-loop-other
invariant-loop-other l =
    value_left (map (λ n. n.now) (iter_rest (zip_first l.other-iterator))) (map value_shown (iter_rest (zip_second l.other-iterator))) l.name
    ≡ value_left (map (λ n. n.now) l.names) (map value_shown l.values) l.name
