use Rattle.rehearse_rules.proofs.TaskChoices.{log_is_word, runs_part_where_asked}
use Rattle.rehearse_rules.proofs.AskedLogs.{whole_log_is_word}
use Rattle.rehearse_rules.proofs.StayingAnswers.{answers_stay}
use Rattle.rehearse_rules.proofs.MetNeeds.{needs_are_met}
use Rattle.rehearse_rules.proofs.laws.outcomes_of_runs.Goals as goal

pub returns-clause-logged : goal.returns-clause-logged
returns-clause-logged c = log_is_word

pub returns-clause-whole : goal.returns-clause-whole
returns-clause-whole c = whole_log_is_word

pub returns-clause-parted : goal.returns-clause-parted
returns-clause-parted c = runs_part_where_asked

pub returns-clause-stays : goal.returns-clause-stays
returns-clause-stays c = answers_stay

pub returns-clause-needs : goal.returns-clause-needs
returns-clause-needs c = needs_are_met
