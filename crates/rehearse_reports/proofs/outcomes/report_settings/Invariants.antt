use Rattle.std.proofs.Common.{take}
use Rattle.std.specs.List.{flat_map}
use Rattle.text.specs.TextsShown.{bytes_of_words}
use Rattle.rehearse_reports.specs.Reports.{Reports}
use Rattle.rehearse_reports.specs.ReportsShown.{accesses_shown}
use Rattle.rehearse_reports.proofs.OutcomeLemmas.{of_setting}
use Rattle.rehearse_reports.proofs.outcomes.report_settings.Given as goal

-- the settings so far are reported
abbrev pub invariant-loop-set : goal.invariant-loop-set
invariant-loop-set l = Reports (accesses_shown l.initial.reported) (accesses_shown l.reported) (flat_map (of_setting (bytes_of_words l.words)) (take l.set-index l.sets))
