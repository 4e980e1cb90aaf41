use Rattle.std.proofs.Common.{◌≡◌, take}
use Rattle.std.specs.List.{fold}
use Rattle.hushcheck.specs.Sights.{first_look, look_after}
use Rattle.hushcheck.proofs.sights.seen_in.Given as goal

-- the bytes so far were read
abbrev pub invariant-loop-byte : goal.invariant-loop-byte
invariant-loop-byte l = l.look ≡ fold look_after first_look (take l.byte-index l.text)
