use Rattle.std.proofs.Common.{[], take}
use Rattle.rehearse_boots.specs.Leading.{lists_of}
use Rattle.rehearse_boots.specs.LeadingRounds.{Marks, places_before}
use Rattle.rehearse_boots.proofs.leading.mark_before.Given as goal

-- the places before those so far are marked
abbrev pub invariant-loop-place : goal.invariant-loop-place
invariant-loop-place l = Marks (places_before (lists_of l.back) (take l.place-index l.places)) l.initial.marks l.marks [] l.found.items
