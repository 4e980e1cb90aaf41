use Rattle.std.proofs.Common.{take}
use Rattle.std.specs.List.{flat_map}
use Rattle.rehearse_reports.specs.Reports.{Reports, memory_at}
use Rattle.rehearse_reports.specs.ReportsShown.{accesses_shown}
use Rattle.rehearse_reports.proofs.WordLemmas.{of_word}
use Rattle.rehearse_reports.proofs.words.report_words.Given as goal

-- the words so far are reported
abbrev pub invariant-loop-word : goal.invariant-loop-word
invariant-loop-word g l = Reports (accesses_shown l.initial.reported) (accesses_shown l.reported) (flat_map (of_word (memory_at (g.S.Store.record_of l.store).present)) (take l.word-index l.words))
