use Rattle.std.proofs.Common.{◌≡◌, ◌++◌, flat_map, take}
use Rattle.inspecting.specs.CopiesShown.{held_shown}
use Rattle.inspecting.specs.Guesses.{guess_lines}
use Rattle.inspecting.proofs.guess_lines.put_sizes.Given as goal

-- the lines of the sizes so far
abbrev pub invariant-loop-size : goal.invariant-loop-size
invariant-loop-size l = l.text.items ≡ l.fn.text.items ++ flat_map (guess_lines (held_shown l.held) l.offset l.is_copy l.order) (take l.size-index l.sizes)
