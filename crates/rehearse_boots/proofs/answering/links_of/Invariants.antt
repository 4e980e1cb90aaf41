use Rattle.std.proofs.Common.{◌≡◌, map, take}
use Rattle.rehearse_boots.specs.Answering.{clean_places}
use Rattle.rehearse_boots.specs.Exploring.{graph_shown}
use Rattle.rehearse_boots.proofs.answering.links_of.Given as goal

-- of the boots so far
abbrev pub invariant-loop-ways : goal.invariant-loop-ways
invariant-loop-ways l = map (λ v. v.items) l.links.items ≡ map clean_places (graph_shown (take l.ways-index l.graph))
