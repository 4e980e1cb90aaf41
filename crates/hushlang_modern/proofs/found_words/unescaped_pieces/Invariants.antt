use Rattle.std.proofs.Common.{◌≡◌, ◌++◌, map, length}
use Rattle.std.specs.Vec.Iter.{into_iter_items, into_iter_len}
use Rattle.hushlang.specs.TreesShown as view
use Rattle.hushlang_modern.specs.ModernWords as says
use Rattle.hushlang_modern.proofs.found_words.unescaped_pieces.Given as goal

abbrev pub invariant-loop-piece : goal.invariant-loop-piece
invariant-loop-piece l = record {
  made : map view.piece l.made.items ++ map (λ piece. says.unescaped_piece (view.piece piece)) (into_iter_items l.piece-iterator)
      ≡ map (λ piece. says.unescaped_piece (view.piece piece)) l.fn.pieces.items;
  len : into_iter_len l.piece-iterator ≡ length (into_iter_items l.piece-iterator);
}
