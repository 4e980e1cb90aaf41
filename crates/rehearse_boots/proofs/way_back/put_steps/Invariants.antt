use Rattle.std.proofs.Common.{◌≡◌, ◌++◌, take}
use Rattle.std.specs.List.{flat_map}
use Rattle.rehearse_boots.specs.Answering.{step_text}
use Rattle.rehearse_boots.specs.Exploring.{asked_in, graph_shown}
use Rattle.rehearse_boots.proofs.way_back.put_steps.Given as goal

-- the lines of the boots so far
abbrev pub invariant-loop-step : goal.invariant-loop-step
invariant-loop-step l = l.text.items ≡ l.initial.text.items ++ flat_map (step_text (asked_in l.telling) l.explored.found.boots (graph_shown l.explored.graph.items)) (take l.step-index l.way)
