use Rattle.std.proofs.Common.{◌≡◌, ◌++◌, flat_map, take}
use Rattle.text.specs.Escapes.{word_escaped}
use Rattle.tool_files.proofs.program.put_word.Given as goal

-- the bytes so far
abbrev pub invariant-loop-byte : goal.invariant-loop-byte
invariant-loop-byte l = l.line.items ≡ l.initial.line.items ++ flat_map word_escaped (take l.byte-index l.word)
