use Rattle.std.proofs.Common.{take}
use Rattle.rehearse_boots.specs.LeadingRounds.{Marks}
use Rattle.rehearse_boots.proofs.leading.mark_places.Given as goal

-- the places so far are marked
abbrev pub invariant-loop-place : goal.invariant-loop-place
invariant-loop-place l = Marks (take l.place-index l.places) l.initial.marks l.marks l.initial.found.items l.found.items
