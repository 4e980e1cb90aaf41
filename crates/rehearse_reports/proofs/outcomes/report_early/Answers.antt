use Rattle.std.proofs.Common.{map}
use Rattle.text.specs.TextsShown.{bytes_of_words}
use Rattle.device_list.specs.DevicesShown.{setting_shown}
use Rattle.rehearse_reads.specs.Keys.{all_read}
use Rattle.rehearse_reads.specs.Accesses.{copied_keys, handing_reads}
use Rattle.rehearse_reports.specs.ReportsShown.{accesses_shown}
use Rattle.rehearse_reports.proofs.OutcomeLemmas.{both_reported}
use Rattle.rehearse_reports.proofs.outcomes.report_early.Goals as goal

pub returns : goal.returns
returns c =
    both_reported c.report_copies.result (accesses_shown c.args.reported.now) (accesses_shown c.report_handing.new.reported) (accesses_shown c.report_copies.new.reported) (handing_reads (bytes_of_words c.args.runs.now)) (all_read (copied_keys (map setting_shown c.args.sets.now))) c.in_ok-report_handing.ensures c.report_copies.ensures
