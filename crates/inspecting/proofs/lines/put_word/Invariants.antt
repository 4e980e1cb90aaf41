use Rattle.std.proofs.Common.{◌≡◌, ◌++◌, flat_map, take}
use Rattle.text.specs.Escapes.{word_escaped}
use Rattle.inspecting.proofs.lines.put_word.Given as goal

-- the bytes so far
abbrev pub invariant-loop-byte : goal.invariant-loop-byte
invariant-loop-byte l = l.text.items ≡ l.initial.text.items ++ flat_map word_escaped (take l.byte-index l.word)
