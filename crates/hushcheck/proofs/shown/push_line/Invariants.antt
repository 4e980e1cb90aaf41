use Rattle.std.proofs.Common.{◌≡◌, ◌++◌, take}
use Rattle.hushcheck.specs.Shown.{shown_line}
use Rattle.hushcheck.proofs.shown.push_line.Given as goal

-- the bytes so far are after the text
abbrev pub invariant-loop-byte : goal.invariant-loop-byte
invariant-loop-byte l = l.text.items ≡ l.fn.text.items ++ shown_line (take l.byte-index l.line)
