use Rattle.std.proofs.Common.{◌≡◌, ℕ, not, drop, length}
use Rattle.std.specs.List.{list_any}
use Rattle.rehearse_records.specs.LinePieces.{stands}
use Rattle.rehearse_records.proofs.line_pieces.blocks_have_escaped.Given as goal

-- the rest is what follows some of the bytes, which are printed as they are
abbrev pub invariant-loop-block : goal.invariant-loop-block
invariant-loop-block g l =
    (k : ℕ) × (l.rest ≡ drop k l.bytes) × (list_any (λ b. not (stands l.fn.form b)) l.bytes ≡ list_any (λ b. not (stands l.fn.form b)) l.rest)

abbrev pub decreases-loop-block : goal.decreases-loop-block
decreases-loop-block g l = length l.rest
