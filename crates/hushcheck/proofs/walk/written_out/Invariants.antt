use Rattle.std.proofs.Common.{◌≡◌, map, drop}
use Rattle.hushlang.specs.TreesShown as view
use Rattle.hushcheck.specs.Names.{in_front, written_out}
use Rattle.hushcheck.proofs.walk.written_out.Given as goal

-- the bytes so far, before what the other pieces say
abbrev pub invariant-loop-piece : goal.invariant-loop-piece
invariant-loop-piece l = in_front l.bytes.items (written_out (map view.piece (drop l.piece-index l.piece-items))) ≡ written_out (map view.piece l.piece-items)
