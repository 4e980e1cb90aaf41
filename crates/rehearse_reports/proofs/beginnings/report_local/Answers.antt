use Rattle.rehearse_reports.specs.ReportsShown.{accesses_shown}
use Rattle.rehearse_reports.proofs.NamedLemmas.{local_refused}
use Rattle.rehearse_reports.proofs.beginnings.report_local.Goals as goal

pub returns-then-is_refused : goal.returns-then-is_refused
returns-then-is_refused c = local_refused (accesses_shown c.args.reported.now) c.args.shell c.args.name.now c.args.value.now c.if-is_refused.ensures
