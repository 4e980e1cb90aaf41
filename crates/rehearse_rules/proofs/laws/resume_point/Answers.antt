use Rattle.rehearse_rules.proofs.ResumedLemmas as resumed
use Rattle.rehearse_rules.proofs.laws.resume_point.Goals as goal

pub returns-clause-point : goal.returns-clause-point
returns-clause-point c = resumed.resume_point

pub returns-clause-all : goal.returns-clause-all
returns-clause-all c = resumed.resumed_at_point

pub returns-clause-rest : goal.returns-clause-rest
returns-clause-rest c = resumed.resumed_rest
