use Rattle.std.proofs.Common.{◌≡◌, ◌++◌, flat_map, take}
use Rattle.inspecting.specs.CopiesShown.{held_shown}
use Rattle.inspecting.specs.Guesses.{guesses_at}
use Rattle.inspecting.proofs.guess_lines.put_places.Given as goal

-- the lines of the places so far
abbrev pub invariant-loop-offset : goal.invariant-loop-offset
invariant-loop-offset l = l.text.items ≡ l.fn.text.items ++ flat_map (guesses_at (held_shown l.held)) (take l.offset-index l.offsets)
