use Rattle.std.proofs.Common.{take}
use Rattle.std.specs.List.{flat_map}
use Rattle.rehearse_reports.specs.Reports.{Reports, memory_at}
use Rattle.rehearse_reports.specs.ReportsShown.{accesses_shown}
use Rattle.rehearse_reports.proofs.WordLemmas.{of_value}
use Rattle.rehearse_reports.proofs.beginnings.report_values.Given as goal

-- the values so far are reported
abbrev pub invariant-loop-value : goal.invariant-loop-value
invariant-loop-value g l = Reports (accesses_shown l.initial.reported) (accesses_shown l.reported) (flat_map (of_value (memory_at (g.S.Store.record_of l.store).present)) (take l.value-index l.values))
