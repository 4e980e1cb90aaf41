use Rattle.std.proofs.Common.{◌≡◌, map, take}
use Rattle.envimage.specs.Place.{place_shown, named_shown}
use Rattle.envimage.proofs.config.owned_all.Given as goal

abbrev pub invariant-loop-place : goal.invariant-loop-place
invariant-loop-place l = map place_shown l.list.items ≡ map named_shown (take l.place-index l.places)
