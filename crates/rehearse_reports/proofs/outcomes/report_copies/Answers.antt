use Rattle.rehearse_reports.specs.ReportsShown.{accesses_shown}
use Rattle.rehearse_reports.proofs.ReportLemmas.{reports_nothing, reports_next, reports_all}
use Rattle.rehearse_reports.proofs.OutcomeLemmas.{of_copy, copies_done}
use Rattle.rehearse_reports.proofs.outcomes.report_copies.Goals as goal

pub loop-set-init : goal.loop-set-init
loop-set-init c = reports_nothing (accesses_shown c.args.reported.now)

pub loop-set-preserved : goal.loop-set-preserved
loop-set-preserved c =
    reports_next of_copy c.args.sets.now (accesses_shown c.args.reported.now) c.loop-set.set-index c.set-item.result (accesses_shown c.loop-set.reported) (accesses_shown c.report_copy.new.reported) c.loop-set-test.true c.set-item.is c.loop-set.invariant c.in_ok-report_copy.ensures

pub returns : goal.returns
returns c =
    copies_done (accesses_shown c.args.reported.now) (accesses_shown c.loop-set.reported) c.args.sets.now
    (reports_all of_copy c.args.sets.now (accesses_shown c.args.reported.now) c.loop-set.set-index (accesses_shown c.loop-set.reported) c.loop-set-test.false c.loop-set.invariant)
