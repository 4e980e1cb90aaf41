use Rattle.std.proofs.Common.{◌≡◌, not, take}
use Rattle.std.specs.List.{list_any}
use Rattle.rehearse_records.specs.LinePieces.{stands}
use Rattle.rehearse_records.proofs.line_pieces.block_has_escaped.Given as goal

-- whether one of the bytes so far is not printed as it is
abbrev pub invariant-loop-byte : goal.invariant-loop-byte
invariant-loop-byte g l = l.found ≡ list_any (λ b. not (stands l.fn.form b)) (take l.byte-index l.block)
