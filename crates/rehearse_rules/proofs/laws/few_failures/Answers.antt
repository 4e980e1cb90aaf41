use Rattle.rehearse_rules.proofs.FewFailures.{failures_count, all_may_fail, fewer_among_more, fewer_are_more, few_runs, none_may_fail}
use Rattle.rehearse_rules.proofs.UnexpectedAnswers.{one_is_expected}
use Rattle.rehearse_rules.proofs.laws.few_failures.Goals as goal

pub returns-clause-expected : goal.returns-clause-expected
returns-clause-expected c = one_is_expected

pub returns-clause-failures : goal.returns-clause-failures
returns-clause-failures c = failures_count

pub returns-clause-all : goal.returns-clause-all
returns-clause-all c = all_may_fail

pub returns-clause-among : goal.returns-clause-among
returns-clause-among c = fewer_among_more

pub returns-clause-more : goal.returns-clause-more
returns-clause-more c = fewer_are_more

pub returns-clause-few : goal.returns-clause-few
returns-clause-few c = few_runs

pub returns-clause-none : goal.returns-clause-none
returns-clause-none c = none_may_fail
