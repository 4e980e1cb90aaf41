use Rattle.std.proofs.Common.{List, subst}
use Rattle.std.specs.List.{flat_map}
use Rattle.hushlang.specs.declared.tree.Piece.{Piece}
use Rattle.rehearse_reports.specs.Reports.{Reports, memory_at}
use Rattle.rehearse_reports.specs.ReportsShown.{accesses_shown}
use Rattle.rehearse_reports.proofs.ReportLemmas.{reports_nothing, reports_next, reports_all}
use Rattle.rehearse_reports.proofs.WordLemmas.{of_piece, word_done}
use Rattle.rehearse_reports.proofs.words.report_word.Goals as goal

pub loop-piece-init : goal.loop-piece-init
loop-piece-init g c = reports_nothing (accesses_shown c.args.reported.now)

pub loop-piece-preserved : goal.loop-piece-preserved
loop-piece-preserved g c =
    reports_next (of_piece (memory_at (g.S.Store.record_of c.args.store.now).present)) c.deref-piece-items.result.now (accesses_shown c.args.reported.now) c.loop-piece.piece-index c.piece-item.result (accesses_shown c.loop-piece.reported) (accesses_shown c.report_piece.new.reported) c.loop-piece-test.true c.piece-item.is c.loop-piece.invariant c.in_ok-report_piece.ensures

pub returns : goal.returns
returns g c =
    word_done (accesses_shown c.args.reported.now) (accesses_shown c.loop-piece.reported) (memory_at (g.S.Store.record_of c.args.store.now).present) c.args.word.now.pieces.items
    (subst (λ (ps : List Piece). Reports (accesses_shown c.args.reported.now) (accesses_shown c.loop-piece.reported) (flat_map (of_piece (memory_at (g.S.Store.record_of c.args.store.now).present)) ps)) c.deref-piece-items.ensures.value
    (reports_all (of_piece (memory_at (g.S.Store.record_of c.args.store.now).present)) c.deref-piece-items.result.now (accesses_shown c.args.reported.now) c.loop-piece.piece-index (accesses_shown c.loop-piece.reported) c.loop-piece-test.false c.loop-piece.invariant))
