use Rattle.std.proofs.Common.{◌≤◌, length, reverse}
use Rattle.rehearse_boots.specs.Answering.{IsWalk}
use Rattle.rehearse_boots.proofs.way_back.way_to.Given as goal

abbrev pub decreases-loop-at : goal.decreases-loop-at
decreases-loop-at l = l.at

-- the ways so far lead on from here
abbrev pub invariant-loop-at : goal.invariant-loop-at
invariant-loop-at l = (l.at ≤ length l.by) × IsWalk l.by (reverse l.way.items) l.at l.place
