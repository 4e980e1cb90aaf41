use Rattle.std.proofs.Common.{◌≡◌, ◌++◌, flat_map, take}
use Rattle.text.specs.Escapes.{word_escaped}
use Rattle.bootstore_state.proofs.device_line.add_escaped.Given as goal

-- the bytes so far
abbrev pub invariant-loop-byte : goal.invariant-loop-byte
invariant-loop-byte l = l.text.items ≡ l.initial.text.items ++ flat_map word_escaped (take l.byte-index l.bytes)
