use Rattle.std.proofs.Common.{◌≡◌, map, take}
use Rattle.rehearse_boots.specs.Answering.{clean_places}
use Rattle.rehearse_boots.specs.Ways.{way_shown}
use Rattle.rehearse_boots.proofs.answering.clean_places.Given as goal

-- the places of the ways so far
abbrev pub invariant-loop-way : goal.invariant-loop-way
invariant-loop-way l = l.places.items ≡ clean_places (map way_shown (take l.way-index l.ways))
