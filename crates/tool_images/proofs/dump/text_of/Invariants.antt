use Rattle.std.proofs.Common.{◌≡◌, map, take}
use Rattle.tool_images.specs.Dump as says
use Rattle.tool_images.proofs.dump.text_of.Given as goal

-- the lines so far were added
abbrev pub invariant-loop-line : goal.invariant-loop-line
invariant-loop-line l = l.text.items ≡ says.text_of (map (λ line. line.now) (take l.line-index l.lines))
