use Rattle.std.proofs.Common.{◌≡◌, ◌++◌, map, drop}
use Rattle.std.specs.List.{flat_map}
use Rattle.hushlang.specs.TreesShown as view
use Rattle.hushlang_modern.specs.ModernWords.{bytes_of_piece}
use Rattle.hushlang_modern.proofs.found_words.bytes_of.Given as goal

abbrev pub invariant-loop-piece : goal.invariant-loop-piece
invariant-loop-piece l =
    l.bytes.items ++ flat_map bytes_of_piece (map view.piece (drop l.piece-index l.pieces)) ≡ flat_map bytes_of_piece (map view.piece l.pieces)
