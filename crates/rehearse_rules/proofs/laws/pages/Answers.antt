use Rattle.rehearse_rules.proofs.Pages.{more_is_left, pages_of_runs, pages_of_rest}
use Rattle.rehearse_rules.proofs.laws.pages.Goals as goal

pub returns-clause-of_runs : goal.returns-clause-of_runs
returns-clause-of_runs c = pages_of_runs

pub returns-clause-of_rest : goal.returns-clause-of_rest
returns-clause-of_rest c = pages_of_rest

pub returns-clause-more : goal.returns-clause-more
returns-clause-more c = more_is_left
