use Rattle.rehearse_rules.proofs.StepLemmas.{asked_in_front, shared_is_within}
use Rattle.rehearse_rules.proofs.laws.work_of_runs.Goals as goal

pub returns-clause-front : goal.returns-clause-front
returns-clause-front c = asked_in_front

pub returns-clause-shared : goal.returns-clause-shared
returns-clause-shared c = shared_is_within
