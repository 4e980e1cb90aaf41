use Rattle.rehearse_causes.proofs.LawLemmas.{causes_are_runs, causes_stand_alone, checks_are_right, runs_have_causes}
use Rattle.rehearse_causes.proofs.laws.causes_of_runs.Goals as goal

pub returns-clause-runs : goal.returns-clause-runs
returns-clause-runs c = causes_are_runs

pub returns-clause-each : goal.returns-clause-each
returns-clause-each c = runs_have_causes

pub returns-clause-alone : goal.returns-clause-alone
returns-clause-alone c = causes_stand_alone

pub returns-clause-checks : goal.returns-clause-checks
returns-clause-checks c = checks_are_right
