use Rattle.rehearse_reports.specs.Reports.{memory_at}
use Rattle.rehearse_reports.specs.ReportsShown.{accesses_shown}
use Rattle.rehearse_reports.proofs.ReportLemmas.{reports_nothing, reports_next, reports_all}
use Rattle.rehearse_reports.proofs.WordLemmas.{of_word, words_done}
use Rattle.rehearse_reports.proofs.words.report_words.Goals as goal

pub loop-word-init : goal.loop-word-init
loop-word-init g c = reports_nothing (accesses_shown c.args.reported.now)

pub loop-word-preserved : goal.loop-word-preserved
loop-word-preserved g c =
    reports_next (of_word (memory_at (g.S.Store.record_of c.args.store.now).present)) c.args.words.now (accesses_shown c.args.reported.now) c.loop-word.word-index c.word-item.result (accesses_shown c.loop-word.reported) (accesses_shown c.report_word.new.reported) c.loop-word-test.true c.word-item.is c.loop-word.invariant c.in_ok-report_word.ensures

pub returns : goal.returns
returns g c =
    words_done (accesses_shown c.args.reported.now) (accesses_shown c.loop-word.reported) (memory_at (g.S.Store.record_of c.args.store.now).present) c.args.words.now
    (reports_all (of_word (memory_at (g.S.Store.record_of c.args.store.now).present)) c.args.words.now (accesses_shown c.args.reported.now) c.loop-word.word-index (accesses_shown c.loop-word.reported) c.loop-word-test.false c.loop-word.invariant)
