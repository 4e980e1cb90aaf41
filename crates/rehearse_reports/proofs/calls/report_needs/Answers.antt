use Rattle.text.specs.TextsShown.{bytes_of_words}
use Rattle.rehearse_reports.specs.ReportsShown.{accesses_shown}
use Rattle.rehearse_reports.proofs.CallLemmas.{needs_none, needs_one}
use Rattle.rehearse_reports.proofs.calls.report_needs.Goals as goal

pub returns-then-is_empty : goal.returns-then-is_empty
returns-then-is_empty c = needs_none (accesses_shown c.args.reported.now) c.args.needs.now c.if-is_empty.ensures

pub returns : goal.returns
returns c =
    needs_one (accesses_shown c.args.reported.now) (accesses_shown c.reads.new.self) c.args.needs.now (bytes_of_words c.in_ok-call.call.items) c.in_ok-call.ensures c.if-is_empty.ensures c.in_ok-reads.ensures.covers
