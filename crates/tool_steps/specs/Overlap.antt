-- Two places that share a byte. What is made of it is ours.
use Rattle.std.specs.Prelude.{◌+◌, ◌&&◌, nat_lt, max, min, Bool, false, List, ◌∷◌}
use Rattle.std.specs.Str.{bytes_eq}
use Rattle.envimage.specs.Config.{PlaceShown}
use Rattle.tool_steps.specs.Images.{Copy}

-- the places are of one path, and the later of their starts is before the earlier of their ends
abbrev pub overlap : PlaceShown → PlaceShown → Bool
overlap a b = bytes_eq a.device b.device
    && nat_lt (max a.offset b.offset) (min (a.offset + a.size) (b.offset + b.size))

-- the copies are a pair whose places do
abbrev pub are_overlapping : List Copy → Bool
are_overlapping (first ∷ second ∷ more) = overlap first.0 second.0
are_overlapping _ = false
