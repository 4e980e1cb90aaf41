use Rattle.rehearse_reports.proofs.AddingLemmas.{found_in}
use Rattle.rehearse_reports.proofs.reported.is_written.Goals as goal

pub returns-then-not-is_empty : goal.returns-then-not-is_empty
returns-then-not-is_empty c = found_in c.contains.result c.args.key.now c.args.written.now c.contains.ensures
