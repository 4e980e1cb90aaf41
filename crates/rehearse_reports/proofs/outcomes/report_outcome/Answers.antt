use Rattle.rehearse_machine.specs.MovesShown.{request_shown}
use Rattle.rehearse_machine.specs.Machine.{outcome_when}
use Rattle.rehearse_reports.specs.ReportsShown.{accesses_shown}
use Rattle.rehearse_reports.proofs.OutcomeLemmas.{early_then}
use Rattle.rehearse_reports.proofs.outcomes.report_outcome.Goals as goal

pub returns : goal.returns
returns c =
    early_then c.report_writes.result (accesses_shown c.args.reported.now) (accesses_shown c.report_early.new.reported) (accesses_shown c.report_writes.new.reported) (outcome_when c.args.success) (request_shown c.args.ask.now) c.in_ok-report_early.ensures c.report_writes.ensures
