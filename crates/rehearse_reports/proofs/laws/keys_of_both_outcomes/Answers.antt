use Rattle.rehearse_reports.proofs.FollowingLemmas.{keys_of_both_outcomes}
use Rattle.rehearse_reports.proofs.laws.keys_of_both_outcomes.Goals as goal

pub returns : goal.returns
returns c = keys_of_both_outcomes
