use Rattle.std.proofs.Common.{◌≡◌, ◌++◌, map, drop}
use Rattle.hushlang.specs.TreesShown as view
use Rattle.hushcheck.specs.Calls.{reads_in}
use Rattle.hushcheck.specs.Remarks.{all_read}
use Rattle.hushcheck.proofs.reading.push_reads.Given as goal

-- what the pieces so far read, before what the others do
abbrev pub invariant-loop-piece : goal.invariant-loop-piece
invariant-loop-piece l = all_read l.reads.items ++ reads_in l.at (map view.piece (drop l.piece-index l.piece-items)) ≡ all_read l.fn.reads.items ++ reads_in l.at (map view.piece l.piece-items)
