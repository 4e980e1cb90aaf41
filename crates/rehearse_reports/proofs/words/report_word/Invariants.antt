use Rattle.std.proofs.Common.{take}
use Rattle.std.specs.List.{flat_map}
use Rattle.rehearse_reports.specs.Reports.{Reports, memory_at}
use Rattle.rehearse_reports.specs.ReportsShown.{accesses_shown}
use Rattle.rehearse_reports.proofs.WordLemmas.{of_piece}
use Rattle.rehearse_reports.proofs.words.report_word.Given as goal

-- the pieces so far are reported
abbrev pub invariant-loop-piece : goal.invariant-loop-piece
invariant-loop-piece g l = Reports (accesses_shown l.initial.reported) (accesses_shown l.reported) (flat_map (of_piece (memory_at (g.S.Store.record_of l.store).present)) (take l.piece-index l.piece-items))
