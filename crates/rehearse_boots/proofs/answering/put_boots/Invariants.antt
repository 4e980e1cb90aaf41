use Rattle.std.proofs.Common.{◌≡◌, ◌++◌, take}
use Rattle.std.specs.List.{enumerate_from, flat_map}
use Rattle.rehearse_boots.specs.Answering.{one_text}
use Rattle.rehearse_boots.specs.Exploring.{asked_in, graph_shown}
use Rattle.rehearse_boots.proofs.answering.put_boots.Given as goal

-- the lines of the boots so far
abbrev pub invariant-loop-place : goal.invariant-loop-place
invariant-loop-place l = l.text.items ≡ l.initial.text.items ++ flat_map (λ g. one_text (asked_in l.telling) l.explored.found.boots g.0 g.1) (enumerate_from 0 (graph_shown (take l.place l.ways-items)))
