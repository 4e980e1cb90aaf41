use Rattle.std.proofs.Common.{◌≡◌, ◌++◌, replicate}
use Rattle.tool_images.proofs.new_image.push_filling.Given as goal

-- the bytes so far
abbrev pub invariant-loop-done : goal.invariant-loop-done
invariant-loop-done l = l.body.items ≡ l.fn.body.items ++ replicate l.done l.fill
