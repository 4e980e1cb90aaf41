use Rattle.rehearse_rules.proofs.TaskChoices.{no_run_begins_another, no_run_is_longer, runs_are_there, another_follows}
use Rattle.rehearse_rules.proofs.ResumedLemmas.{no_run_twice}
use Rattle.rehearse_rules.proofs.laws.words_of_runs.Goals as goal

pub returns-clause-distinct : goal.returns-clause-distinct
returns-clause-distinct c = no_run_twice

pub returns-clause-no_prefix : goal.returns-clause-no_prefix
returns-clause-no_prefix c = no_run_begins_another

pub returns-clause-bounded : goal.returns-clause-bounded
returns-clause-bounded c = no_run_is_longer

pub returns-clause-some : goal.returns-clause-some
returns-clause-some c = runs_are_there

pub returns-clause-another : goal.returns-clause-another
returns-clause-another c = another_follows
