use Rattle.std.proofs.Common.{◌≡◌, true, map, take}
use Rattle.std.specs.List.{list_all}
use Rattle.envimage.specs.Entries.{pair_at}
use Rattle.rehearse_boots.specs.Expecting.{is_left}
use Rattle.rehearse_states.specs.RowsShown.{value_shown}
use Rattle.rehearse_boots.proofs.way.are_left.Given as goal

-- all values so far
abbrev pub invariant-loop-pair : goal.invariant-loop-pair
invariant-loop-pair l = list_all (is_left (map (λ n. n.now) l.names) (map value_shown l.values)) (map pair_at (take l.pair-index l.expected)) ≡ true
