use Rattle.std.proofs.Common.{◌≡◌, suc, take, map}
use Rattle.rehearse_states.specs.Drawing.{node_shown}
use Rattle.rehearse_states.specs.Flow.{flow_text}
use Rattle.rehearse_states.proofs.flow_lines.flow_text_of.Given as goal

-- the lines of the nodes so far
abbrev pub invariant-loop-node : goal.invariant-loop-node
invariant-loop-node l = (l.number ≡ suc l.node-index) × (l.text.items ≡ flow_text (map node_shown (take l.node-index l.node-items)))
