use Rattle.std.proofs.Common.{◌≡◌, map, take}
use Rattle.rehearse_boots.specs.Exploring.{graph_shown}
use Rattle.rehearse_boots.specs.Ways.{has_goal}
use Rattle.rehearse_boots.proofs.answering.goals_of.Given as goal

-- of the boots so far
abbrev pub invariant-loop-ways : goal.invariant-loop-ways
invariant-loop-ways l = l.goals.items ≡ map has_goal (graph_shown (take l.ways-index l.graph))
