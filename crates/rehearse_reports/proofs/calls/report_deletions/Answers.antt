use Rattle.std.proofs.Common.{◌∙◌}
use Rattle.rehearse_reports.specs.ReportsShown.{accesses_shown}
use Rattle.rehearse_reports.proofs.ReportLemmas.{reports_nothing, reports_next, reports_all}
use Rattle.rehearse_reports.proofs.CallLemmas.{deletes, deletes_one, deletes_all}
use Rattle.rehearse_reports.proofs.calls.report_deletions.Goals as goal

pub loop-name-init : goal.loop-name-init
loop-name-init c = reports_nothing (accesses_shown c.args.reported.now)

pub loop-name-preserved : goal.loop-name-preserved
loop-name-preserved c =
    reports_next deletes c.args.names.now (accesses_shown c.args.reported.now) c.loop-name.name-index c.name-item.result (accesses_shown c.loop-name.reported) (accesses_shown c.writes.new.self) c.loop-name-test.true c.name-item.is c.loop-name.invariant
    (deletes_one (accesses_shown c.loop-name.reported) (accesses_shown c.reads.new.self) (accesses_shown c.writes.new.self) c.name-item.result c.in_ok-from_slice.field-0.items c.in_ok-from_slice-2.field-0.items (c.in_ok-from_slice.ensures.items ∙ c.deref.ensures.value) (c.in_ok-from_slice-2.ensures.items ∙ c.deref-in-loop-name.ensures.value) c.in_ok-reads.ensures.covers c.in_ok-writes.ensures.covers)

pub returns : goal.returns
returns c = deletes_all (accesses_shown c.args.reported.now) (accesses_shown c.loop-name.reported) c.args.names.now (reports_all deletes c.args.names.now (accesses_shown c.args.reported.now) c.loop-name.name-index (accesses_shown c.loop-name.reported) c.loop-name-test.false c.loop-name.invariant)
