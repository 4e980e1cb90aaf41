use Rattle.std.proofs.Common.{◌≡◌, flat_map, take}
use Rattle.text.specs.Escapes.{word_escaped}
use Rattle.bootstore_state.proofs.device_line.are_plain.Given as goal

-- the bytes so far are printed as they are
abbrev pub invariant-loop-byte : goal.invariant-loop-byte
invariant-loop-byte l = flat_map word_escaped (take l.byte-index l.bytes) ≡ take l.byte-index l.bytes
