use Rattle.std.proofs.Common.{◌≡◌, ◌-◌, length}
use Rattle.hushlang.specs.CuttersShown.{to_come}
use Rattle.hushlang.specs.WordPieces.{pieces_so_far, pieces_in, pieces_behind}
use Rattle.hushlang.proofs.word_pieces.read_pieces.Given as goal

abbrev pub invariant-parts : goal.invariant-parts
invariant-parts l = record {
  same : pieces_behind (pieces_so_far l.gathering) (to_come l.parts) ≡ pieces_in (to_come l.fn.parts);
  source : l.parts.source ≡ l.fn.parts.source;
}

abbrev pub decreases-parts : goal.decreases-parts
decreases-parts l = length l.parts.source - l.parts.at
