use Rattle.hushlang.specs.declared.tree.Piece.TheVariants as pieces
use Rattle.rehearse_reports.specs.Reports.{memory_at}
use Rattle.rehearse_reports.specs.ReportsShown.{accesses_shown}
use Rattle.rehearse_reports.proofs.ReportLemmas.{reports_nothing}
use Rattle.rehearse_reports.proofs.WordLemmas.{piece_as}
use Rattle.rehearse_reports.proofs.words.report_piece.Goals as goal

pub returns-in-Bytes : goal.returns-in-Bytes
returns-in-Bytes g c =
    piece_as (accesses_shown c.args.reported.now) (accesses_shown c.args.reported.now) (memory_at (g.S.Store.record_of c.args.store.now).present) c.args.piece.now (pieces.Bytes c.in-Bytes.field-0) c.in-Bytes.is (reports_nothing (accesses_shown c.args.reported.now))

pub returns-in-Mark : goal.returns-in-Mark
returns-in-Mark g c =
    piece_as (accesses_shown c.args.reported.now) (accesses_shown c.args.reported.now) (memory_at (g.S.Store.record_of c.args.store.now).present) c.args.piece.now pieces.Mark c.in-Mark.is (reports_nothing (accesses_shown c.args.reported.now))
