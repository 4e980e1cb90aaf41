use Rattle.std.proofs.Common.{ap, map, arith}
use Rattle.std.proofs.Math.ListN.{drop_of_length-le}
use Rattle.hushlang.specs.TreesShown as view
use Rattle.hushlang.proofs.ExpandLemmas.{drop_next}
use Rattle.hushlang_uboot.proofs.WordLemmas.{flat_next, flat_done}
use Rattle.hushlang_modern.specs.ModernWords.{bytes_of_piece}
use Rattle.hushlang_modern.proofs.found_words.bytes_of.Goals as goal

pub loop-piece-preserved : goal.loop-piece-preserved
loop-piece-preserved c =
    let first = ap (map view.piece) (drop_next c.args.pieces.now c.loop-piece.piece-index c.piece-item.result (omega arith) c.piece-item.is) in
    flat_next bytes_of_piece _ _ _ (view.piece c.piece-item.result) _ _ first c.loop-piece.invariant c.in_ok-append_bytes.ensures

pub returns : goal.returns
returns c =
    let done = ap (map view.piece) (drop_of_length-le c.args.pieces.now {i = c.loop-piece.piece-index} (omega arith)) in
    flat_done bytes_of_piece _ _ _ done c.loop-piece.invariant
