use Rattle.std.proofs.Common.{◌≡◌, ◌++◌, map, take}
use Rattle.hushcheck.specs.Shown.{mark_byte}
use Rattle.hushcheck.proofs.shown.push_mark.Given as goal

-- the marks for the bytes so far
abbrev pub invariant-loop-byte : goal.invariant-loop-byte
invariant-loop-byte l = l.text.items ≡ l.fn.text.items ++ map mark_byte (take l.byte-index l.before)
