use Rattle.std.proofs.lemmas.Result.{err_from_is_err_and}
use Rattle.rehearse_records.specs.LinePieces.{piece_text}
use Rattle.output.proofs.PageLemmas.{Put-none, Put-item, Breaks-item}
use Rattle.rehearse_records.proofs.line_pieces.put_pieces.Goals as goal

pub loop-piece-init : goal.loop-piece-init
loop-piece-init g c = Put-none _ _

pub loop-piece-preserved : goal.loop-piece-preserved
loop-piece-preserved g c = Put-item piece_text c.args.pieces.now c.loop-piece.piece-index _ c.loop-piece-test.true c.loop-piece.invariant c.in_ok-put_piece.ensures

pub returns-in_err-put_piece : goal.returns-in_err-put_piece
returns-in_err-put_piece g c =
    let p = err_from_is_err_and c.from_residual.result c.from_residual.ensures.1 in
    rw p.1 (Breaks-item piece_text c.args.pieces.now c.loop-piece.piece-index _ c.loop-piece-test.true c.loop-piece.invariant c.in_err-put_piece.ensures)
