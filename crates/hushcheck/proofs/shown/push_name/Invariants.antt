use Rattle.std.proofs.Common.{◌≡◌, ◌++◌, take}
use Rattle.std.specs.List.{flat_map}
use Rattle.text.specs.Escapes.{word_escaped}
use Rattle.hushcheck.proofs.shown.push_name.Given as goal

-- the bytes so far are after the text
abbrev pub invariant-loop-byte : goal.invariant-loop-byte
invariant-loop-byte l = l.text.items ≡ l.fn.text.items ++ flat_map word_escaped (take l.byte-index l.name)
