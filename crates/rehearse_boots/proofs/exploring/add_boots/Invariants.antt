use Rattle.std.proofs.Common.{◌≤◌, length}
use Rattle.rehearse_boots.specs.Exploring.{AreTold, asked_in, graph_shown}
use Rattle.rehearse_boots.specs.Ways.{AreFoundBy}
use Rattle.rehearse_boots.proofs.exploring.add_boots.Given as goal

-- the boots before the place were explored
abbrev pub invariant-loop-place : goal.invariant-loop-place
invariant-loop-place g l =
    AreTold (g.B.Board.start_of l.board) (asked_in l.telling) l.place l.found.boots (graph_shown l.graph.items)
    × AreFoundBy (graph_shown l.graph.items) l.found.boots l.found.by.items
    × (length l.found.boots ≤ l.telling.ask.now.boots)
