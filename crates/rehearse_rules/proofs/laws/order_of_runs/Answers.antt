use Rattle.rehearse_rules.proofs.OrderOfWords.{runs_are_ordered}
use Rattle.rehearse_rules.proofs.TaskChoices.{task_begins, task_goes_on, task_stands, runs_are_runs}
use Rattle.rehearse_rules.proofs.laws.order_of_runs.Goals as goal

pub returns-clause-begin : goal.returns-clause-begin
returns-clause-begin c = task_begins

pub returns-clause-follow : goal.returns-clause-follow
returns-clause-follow c = task_goes_on

pub returns-clause-stand : goal.returns-clause-stand
returns-clause-stand c = task_stands

pub returns-clause-alone : goal.returns-clause-alone
returns-clause-alone c = runs_are_runs

pub returns-clause-ordered : goal.returns-clause-ordered
returns-clause-ordered c = runs_are_ordered
