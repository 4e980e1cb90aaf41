use Rattle.std.proofs.Common.{◌≡◌, false, map, take}
use Rattle.rehearse_boots.specs.Ways.{has_goal, way_shown}
use Rattle.rehearse_boots.proofs.answering.has_goal.Given as goal

-- none of the ways so far
abbrev pub invariant-loop-way : goal.invariant-loop-way
invariant-loop-way l = has_goal (map way_shown (take l.way-index l.ways)) ≡ false
