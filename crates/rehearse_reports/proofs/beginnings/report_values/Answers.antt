use Rattle.rehearse_reports.specs.Reports.{memory_at}
use Rattle.rehearse_reports.specs.ReportsShown.{accesses_shown}
use Rattle.rehearse_reports.proofs.ReportLemmas.{reports_nothing, reports_next, reports_all}
use Rattle.rehearse_reports.proofs.WordLemmas.{of_value, values_done}
use Rattle.rehearse_reports.proofs.beginnings.report_values.Goals as goal

pub loop-value-init : goal.loop-value-init
loop-value-init g c = reports_nothing (accesses_shown c.args.reported.now)

pub loop-value-preserved : goal.loop-value-preserved
loop-value-preserved g c =
    reports_next (of_value (memory_at (g.S.Store.record_of c.args.store.now).present)) c.args.values.now (accesses_shown c.args.reported.now) c.loop-value.value-index c.value-item.result (accesses_shown c.loop-value.reported) (accesses_shown c.report_word.new.reported) c.loop-value-test.true c.value-item.is c.loop-value.invariant c.in_ok-report_word.ensures

pub returns : goal.returns
returns g c =
    values_done (accesses_shown c.args.reported.now) (accesses_shown c.loop-value.reported) (memory_at (g.S.Store.record_of c.args.store.now).present) c.args.values.now
    (reports_all (of_value (memory_at (g.S.Store.record_of c.args.store.now).present)) c.args.values.now (accesses_shown c.args.reported.now) c.loop-value.value-index (accesses_shown c.loop-value.reported) c.loop-value-test.false c.loop-value.invariant)
