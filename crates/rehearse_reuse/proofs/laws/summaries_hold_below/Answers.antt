use Rattle.rehearse_reuse.proofs.LowestFrames.{summaries_hold_below, summaries_hold_above, nodes_hold_below}
use Rattle.rehearse_reuse.proofs.laws.summaries_hold_below.Goals as goal

pub returns-clause-below : goal.returns-clause-below
returns-clause-below c = summaries_hold_below

pub returns-clause-above : goal.returns-clause-above
returns-clause-above c = summaries_hold_above

pub returns-clause-nodes : goal.returns-clause-nodes
returns-clause-nodes c = nodes_hold_below
