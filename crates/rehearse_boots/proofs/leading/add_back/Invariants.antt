use Rattle.std.proofs.Common.{take}
use Rattle.rehearse_boots.specs.Leading.{lists_of}
use Rattle.rehearse_boots.specs.LeadingRounds.{AddsBack}
use Rattle.rehearse_boots.proofs.leading.add_back.Given as goal

-- the links back from the places so far
abbrev pub invariant-loop-place : goal.invariant-loop-place
invariant-loop-place l = AddsBack l.from (take l.place-index l.places) (lists_of l.initial.back) (lists_of l.back)
