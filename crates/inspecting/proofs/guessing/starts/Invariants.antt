use Rattle.std.proofs.Common.{◌≡◌, ◌*◌, drop, filter, map}
use Rattle.std.specs.List.{range_with_len}
use Rattle.inspecting.specs.Guesses.{is_start}
use Rattle.inspecting.proofs.guessing.starts.Given as goal

-- the places that were found among the blocks so far
abbrev pub invariant-loop-block : goal.invariant-loop-block
invariant-loop-block l = l.found.items ≡ filter (λ offset. is_start (drop offset l.bytes)) (map (λ block. block * 512) (range_with_len 0 l.block))
