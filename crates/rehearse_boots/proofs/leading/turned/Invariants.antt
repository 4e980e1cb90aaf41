use Rattle.std.proofs.Common.{length, take}
use Rattle.rehearse_boots.specs.Leading.{lists_of}
use Rattle.rehearse_boots.specs.LeadingRounds.{AreTurned}
use Rattle.rehearse_boots.proofs.leading.turned.Given as goal

-- the links from the places so far
abbrev pub invariant-loop-from : goal.invariant-loop-from
invariant-loop-from l = AreTurned (length l.links) (take l.from (lists_of l.links)) (lists_of l.back.items)
