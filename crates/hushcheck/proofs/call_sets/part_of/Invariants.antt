use Rattle.std.proofs.Common.{◌≡◌, ◌++◌, map, drop}
use Rattle.hushlang.specs.TreesShown as view
use Rattle.hushcheck.specs.CallSets.{part_of}
use Rattle.hushcheck.proofs.call_sets.part_of.Given as goal

-- the bytes so far, before what the other pieces say
abbrev pub invariant-loop-piece : goal.invariant-loop-piece
invariant-loop-piece l = l.part.items ++ part_of (map view.piece (drop l.piece-index l.piece-items)) ≡ part_of (map view.piece l.piece-items)
