use Rattle.std.proofs.Common.{◌≡◌, ◌++◌, map}
use Rattle.envimage.specs.Data.{pairs_of}
use Rattle.envimage.specs.Entries.{pairs_left, pair_at}
use Rattle.envtools.proofs.list.in_order.Given as goal

-- the variables that are left follow those that were listed
abbrev pub invariant-loop-pair : goal.invariant-loop-pair
invariant-loop-pair l = map pair_at l.pairs.items ++ pairs_left l.pair-iterator ≡ pairs_of l.body
