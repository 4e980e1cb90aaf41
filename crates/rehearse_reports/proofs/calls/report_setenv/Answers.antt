use Rattle.std.proofs.Common.{◌∙◌}
use Rattle.rehearse_reports.specs.ReportsShown.{accesses_shown}
use Rattle.rehearse_reports.proofs.CallLemmas.{sets_none, sets_bad, sets_named}
use Rattle.rehearse_reports.proofs.calls.report_setenv.Goals as goal

pub returns-in_default : goal.returns-in_default
returns-in_default c = sets_none (accesses_shown c.args.reported.now) c.args.words.now c.in_default.len_below

pub returns-then-is_bad_name : goal.returns-then-is_bad_name
returns-then-is_bad_name c =
    sets_bad c.args.words.now c.name-item.result c.in-len1-up.len_at_least c.name-item.is (accesses_shown c.args.reported.now) c.deref.result.now c.deref.ensures.value c.if-is_bad_name.ensures

pub returns : goal.returns
returns c =
    sets_named c.args.words.now c.name-item.result c.in-len1-up.len_at_least c.name-item.is (accesses_shown c.args.reported.now) (accesses_shown c.writes.new.self) c.deref.result.now c.in_ok-from_slice.field-0.items c.deref.ensures.value c.if-is_bad_name.ensures
    (c.in_ok-from_slice.ensures.items ∙ c.deref-2.ensures.value) c.in_ok-writes.ensures.covers
