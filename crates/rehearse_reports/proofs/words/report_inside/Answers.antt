use Rattle.std.proofs.Common.{rules, ◌≡◌, true, false}
use Rattle.hushlang_old.specs.Defaults.{has_more}
use Rattle.rehearse_reads.specs.Keys.{all_read}
use Rattle.rehearse_reads.specs.Accesses.{variable_reads}
use Rattle.rehearse_reports.specs.Reports.{Reports, memory_at}
use Rattle.rehearse_reports.specs.ReportsShown.{accesses_shown}
use Rattle.rehearse_reports.proofs.NamedLemmas.{ok_as}
use Rattle.rehearse_reports.proofs.WordLemmas.{inside_more}
use Rattle.rehearse_reports.proofs.words.report_inside.Goals as goal

pub returns : goal.returns
returns g c =
    let m = memory_at (g.S.Store.record_of c.args.store.now).present in
    let old = accesses_shown c.args.reported.now in
    let mid = accesses_shown c.report_variable.new.reported in
    let new = accesses_shown c.report_variable-2.new.reported in
    let inside = c.args.inside.now in
    let more : has_more inside ≡ true = search rules in
    ok_as c.report_variable-2.result (λ (h : Reports mid new (all_read (variable_reads m c.variable_of.result.now))). inside_more old mid new m inside c.variable_of.result.now more c.variable_of.ensures c.in_ok-report_variable.ensures h) c.report_variable-2.ensures
