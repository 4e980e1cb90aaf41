use Rattle.std.proofs.Common.{◌≤◌, length}
use Rattle.rehearse_records.specs.LinePieces.{form_of}
use Rattle.rehearse_records.proofs.EscapeLemmas.{SoFar}
use Rattle.rehearse_records.proofs.line_pieces.put_bytes.Given as goal

-- the bytes before the rest were put, and the rest is not longer than the whole
abbrev pub invariant-loop-at : goal.invariant-loop-at
invariant-loop-at g l =
    SoFar (form_of l.form) (g.O.Out.sink l.fn.out) (g.O.Out.sink l.out) l.fn.page.items l.page.items l.bytes l.rest × (length l.rest ≤ length l.bytes)

abbrev pub decreases-loop-at : goal.decreases-loop-at
decreases-loop-at g l = length l.rest
