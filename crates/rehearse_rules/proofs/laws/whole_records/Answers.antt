use Rattle.rehearse_rules.proofs.WholeRecordLemmas.{whole_is_greatest}
use Rattle.rehearse_rules.proofs.ResumedLemmas as resumed
use Rattle.rehearse_rules.proofs.laws.whole_records.Goals as goal

pub returns-clause-greatest : goal.returns-clause-greatest
returns-clause-greatest c = whole_is_greatest

pub returns-clause-split : goal.returns-clause-split
returns-clause-split c = resumed.whole_records

pub returns-clause-resumed : goal.returns-clause-resumed
returns-clause-resumed c = resumed.resuming
