use Rattle.std.proofs.Common.{◌≡◌, ◌++◌, drop}
use Rattle.std.specs.List.{flat_map}
use Rattle.text.specs.Escapes.{word_escaped}
use Rattle.board_start.proofs.start.add_escaped.Given as goal

-- the bytes so far, and then those left
abbrev pub invariant-loop-byte : goal.invariant-loop-byte
invariant-loop-byte l = l.fn.line.items ++ flat_map word_escaped l.bytes ≡ l.line.items ++ flat_map word_escaped (drop l.byte-index l.bytes)
