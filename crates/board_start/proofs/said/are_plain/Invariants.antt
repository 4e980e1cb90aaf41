use Rattle.std.proofs.Common.{◌≡◌, drop}
use Rattle.std.specs.List.{list_all}
use Rattle.board_start.specs.StartLines.{is_plain_byte}
use Rattle.board_start.proofs.said.are_plain.Given as goal

-- all bytes so far are such
abbrev pub invariant-loop-byte : goal.invariant-loop-byte
invariant-loop-byte l = list_all is_plain_byte l.bytes ≡ list_all is_plain_byte (drop l.byte-index l.bytes)
