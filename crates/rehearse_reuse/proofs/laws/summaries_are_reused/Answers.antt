use Rattle.rehearse_reuse.proofs.ReusedSummaries.{summaries_are_reused, nodes_are_reused, keys_are_reused, no_returns_are_reused}
use Rattle.rehearse_reuse.proofs.laws.summaries_are_reused.Goals as goal

pub returns-clause-summaries : goal.returns-clause-summaries
returns-clause-summaries c = summaries_are_reused

pub returns-clause-nodes : goal.returns-clause-nodes
returns-clause-nodes c = nodes_are_reused

pub returns-clause-keys : goal.returns-clause-keys
returns-clause-keys c = keys_are_reused

pub returns-clause-returns : goal.returns-clause-returns
returns-clause-returns c = no_returns_are_reused
