use Rattle.std.proofs.Common.{take}
use Rattle.std.specs.List.{flat_map}
use Rattle.rehearse_reports.specs.Reports.{Reports}
use Rattle.rehearse_reports.specs.ReportsShown.{accesses_shown}
use Rattle.rehearse_reports.proofs.OutcomeLemmas.{of_copy}
use Rattle.rehearse_reports.proofs.outcomes.report_copies.Given as goal

-- the copies so far are reported
abbrev pub invariant-loop-set : goal.invariant-loop-set
invariant-loop-set l = Reports (accesses_shown l.initial.reported) (accesses_shown l.reported) (flat_map of_copy (take l.set-index l.sets))
