use Rattle.std.proofs.Common.{◌≡◌, ◌++◌, map, take}
use Rattle.std.specs.List.{flat_map}
use Rattle.rehearse_boots.specs.Ways.{way_shown}
use Rattle.rehearse_boots.proofs.lines.put_ways.Given as goal

-- the lines of the ways so far
abbrev pub invariant-loop-way : goal.invariant-loop-way
invariant-loop-way l = l.text.items ≡ l.initial.text.items ++ flat_map (λ w. w.lines) (map way_shown (take l.way-index l.ways))
