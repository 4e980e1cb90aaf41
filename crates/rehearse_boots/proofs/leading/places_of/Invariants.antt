use Rattle.std.proofs.Common.{take}
use Rattle.rehearse_boots.specs.LeadingRounds.{AreTheMarked}
use Rattle.rehearse_boots.proofs.leading.places_of.Given as goal

-- the places so far
abbrev pub invariant-loop-place : goal.invariant-loop-place
invariant-loop-place l = AreTheMarked (take l.place l.marks) l.places.items
