use Rattle.std.proofs.Common.{ap, sym, subst}
use Rattle.device_list.specs.DevicesShown.{right_shown}
use Rattle.rehearse_reads.specs.Keys.{all_read}
use Rattle.rehearse_reads.specs.Accesses.{copied_key}
use Rattle.rehearse_reports.specs.Reports.{Reports}
use Rattle.rehearse_reports.specs.ReportsShown.{accesses_shown}
use Rattle.rehearse_reports.proofs.ReportLemmas.{reports_nothing}
use Rattle.rehearse_reports.proofs.outcomes.report_copy.Goals as goal

pub returns-in-Literal : goal.returns-in-Literal
returns-in-Literal c =
    let before = accesses_shown c.args.reported.now in
    subst (Reports before before) (sym (ap (λ value. all_read (copied_key (right_shown value))) c.in-Literal.is)) (reports_nothing before)

pub returns-in-ValueAt : goal.returns-in-ValueAt
returns-in-ValueAt c =
    let before = accesses_shown c.args.reported.now in
    subst (Reports before before) (sym (ap (λ value. all_read (copied_key (right_shown value))) c.in-ValueAt.is)) (reports_nothing before)

pub returns-in-LastValue : goal.returns-in-LastValue
returns-in-LastValue c =
    let before = accesses_shown c.args.reported.now in
    subst (Reports before before) (sym (ap (λ value. all_read (copied_key (right_shown value))) c.in-LastValue.is)) (reports_nothing before)

pub returns-in-Deleted : goal.returns-in-Deleted
returns-in-Deleted c =
    let before = accesses_shown c.args.reported.now in
    subst (Reports before before) (sym (ap (λ value. all_read (copied_key (right_shown value))) c.in-Deleted.is)) (reports_nothing before)
