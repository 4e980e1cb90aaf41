use Rattle.std.proofs.Common.{◌≡◌, ◌≤◌, length, map, reverse, take}
use Rattle.tool_images.specs.Dump.{from_last}
use Rattle.tool_images.proofs.dump.shown_len.Given as goal

-- the lines after the first `len` are empty
abbrev pub invariant-loop-len : goal.invariant-loop-len
invariant-loop-len l =
    (from_last (reverse (map (λ line. line.now) l.lines)) ≡ from_last (reverse (map (λ line. line.now) (take l.len l.lines)))) × (l.len ≤ length l.lines)

abbrev pub decreases-loop-len : goal.decreases-loop-len
decreases-loop-len l = l.len
