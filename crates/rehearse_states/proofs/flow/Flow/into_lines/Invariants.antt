use Rattle.std.proofs.Common.{◌≡◌, ◌++◌, map, reverse, length, vec_len}
use Rattle.rehearse_states.specs.Drawing.{nodes_shown, renumbered}
use Rattle.rehearse_states.proofs.flow.Flow.into_lines.Given as goal

-- the lines so far, and the nodes that are left
abbrev pub invariant-loop-node : goal.invariant-loop-node
invariant-loop-node l =
    reverse (map (renumbered (length l.fn.self.nodes.items)) (nodes_shown l.fn.self.nodes)) ≡ nodes_shown l.lines ++ reverse (map (renumbered (length l.fn.self.nodes.items)) (nodes_shown l.left))

abbrev pub decreases-loop-node : goal.decreases-loop-node
decreases-loop-node l = vec_len l.left
