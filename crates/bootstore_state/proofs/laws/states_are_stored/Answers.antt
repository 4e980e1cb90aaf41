use Rattle.bootstore_state.proofs.StateLemmas.{stored_values, stored_changes, stored_deletions, stored_starts}
use Rattle.bootstore_state.proofs.laws.states_are_stored.Goals as goal

pub returns-clause-values : goal.returns-clause-values
returns-clause-values c = stored_values

pub returns-clause-changes : goal.returns-clause-changes
returns-clause-changes c = stored_changes

pub returns-clause-deletions : goal.returns-clause-deletions
returns-clause-deletions c = stored_deletions

pub returns-clause-starts : goal.returns-clause-starts
returns-clause-starts c = stored_starts
