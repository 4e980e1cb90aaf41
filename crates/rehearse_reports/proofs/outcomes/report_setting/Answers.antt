use Rattle.std.proofs.Common.{ℕ, List, ap, sym, ◌∙◌}
use Rattle.std.specs.Prelude.{option_map}
use Rattle.std.specs.Borrow.{Bor}
use Rattle.text.specs.TextsShown.{bytes_of_words}
use Rattle.rehearse_machine.specs.NewValueShown.{new_value_shown}
use Rattle.device_list.specs.DevicesShown.{setting_shown}
use Rattle.rehearse_reports.specs.ReportsShown.{accesses_shown}
use Rattle.rehearse_reports.proofs.OutcomeLemmas.{sets_no_name, sets_no_value, sets_one}
use Rattle.rehearse_reports.proofs.outcomes.report_setting.Goals as goal

pub returns-in_default : goal.returns-in_default
returns-in_default c = sets_no_name (accesses_shown c.args.reported.now) (bytes_of_words c.args.words.now) (setting_shown c.args.set.now) c.in_default.ensures

pub returns-in_default-value_of : goal.returns-in_default-value_of
returns-in_default-value_of c = sets_no_value (accesses_shown c.args.reported.now) (bytes_of_words c.args.words.now) (setting_shown c.args.set.now) c.in_default-value_of.ensures

pub returns : goal.returns
returns c =
    sets_one (accesses_shown c.args.reported.now) (accesses_shown c.writes.new.self) (bytes_of_words c.args.words.now) (setting_shown c.args.set.now) c.in-Some.name.now (new_value_shown c.in-Some-value_of._value) c.in_ok-from_slice.field-0.items c.in-Some.ensures c.in-Some-value_of.ensures c.in_ok-from_slice.ensures.items c.in_ok-writes.ensures.covers
