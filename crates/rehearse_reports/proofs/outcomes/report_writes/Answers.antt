use Rattle.std.proofs.Common.{ap}
use Rattle.text.specs.TextsShown.{bytes_of_words}
use Rattle.rehearse_machine.specs.MovesShown.{request_shown}
use Rattle.rehearse_reports.specs.ReportsShown.{accesses_shown}
use Rattle.rehearse_reports.proofs.OutcomeLemmas.{failed_so, won_so}
use Rattle.rehearse_reports.proofs.outcomes.report_writes.Goals as goal

pub returns-then-not-success : goal.returns-then-not-success
returns-then-not-success c = failed_so (accesses_shown c.args.reported.now) (accesses_shown c.writes.new.self) (request_shown c.args.ask.now) c.args.success c.if-not-success.true c.in_ok-writes.ensures.covers

pub returns : goal.returns
returns c =
    won_so c.report_settings.result (accesses_shown c.args.reported.now) (accesses_shown c.writes.new.self) (accesses_shown c.report_settings.new.reported) (request_shown c.args.ask.now) c.args.success (bytes_of_words c.deref.result.now) c.if-not-success.false (ap bytes_of_words c.deref.ensures.value) c.in_ok-writes.ensures.covers c.report_settings.ensures
