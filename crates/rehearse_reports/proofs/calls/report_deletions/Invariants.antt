use Rattle.std.proofs.Common.{take}
use Rattle.std.specs.List.{flat_map}
use Rattle.rehearse_reports.specs.Reports.{Reports}
use Rattle.rehearse_reports.specs.ReportsShown.{accesses_shown}
use Rattle.rehearse_reports.proofs.CallLemmas.{deletes}
use Rattle.rehearse_reports.proofs.calls.report_deletions.Given as goal

-- the names so far are reported
abbrev pub invariant-loop-name : goal.invariant-loop-name
invariant-loop-name l = Reports (accesses_shown l.initial.reported) (accesses_shown l.reported) (flat_map deletes (take l.name-index l.names))
