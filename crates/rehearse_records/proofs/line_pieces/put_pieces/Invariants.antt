use Rattle.std.proofs.Common.{take}
use Rattle.std.specs.List.{flat_map}
use Rattle.output.specs.Paging.{Put}
use Rattle.rehearse_records.specs.LinePieces.{piece_text}
use Rattle.rehearse_records.proofs.line_pieces.put_pieces.Given as goal

-- the pieces so far were put
abbrev pub invariant-loop-piece : goal.invariant-loop-piece
invariant-loop-piece g l =
    Put (g.O.Out.sink l.fn.out) (g.O.Out.sink l.out) l.fn.page.items l.page.items (flat_map piece_text (take l.piece-index l.pieces))
