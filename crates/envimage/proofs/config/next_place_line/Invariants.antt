use Rattle.std.proofs.Common.{◌≡◌, length}
use Rattle.envimage.specs.Place.{places_left}
use Rattle.text.specs.Lines.{lines_left}
use Rattle.envimage.proofs.config.next_place_line.Given as goal

-- the skipped lines name no place
abbrev pub invariant-loop-number : goal.invariant-loop-number
invariant-loop-number l = places_left l.lines ≡ places_left l.initial.lines

abbrev pub decreases-loop-number : goal.decreases-loop-number
decreases-loop-number l = length (lines_left l.lines)
