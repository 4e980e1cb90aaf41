use Rattle.rehearse_reports.specs.ReportsShown.{accesses_shown}
use Rattle.rehearse_reports.proofs.OutcomeLemmas.{nothing_handed}
use Rattle.rehearse_reports.proofs.outcomes.report_handing.Goals as goal

pub returns-in_default : goal.returns-in_default
returns-in_default c = nothing_handed c.args.runs.now c.in_default.len_below (accesses_shown c.args.reported.now)
