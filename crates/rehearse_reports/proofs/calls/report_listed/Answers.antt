use Rattle.std.proofs.Common.{refl, sym, subst, ◌++◌}
use Rattle.text.specs.TextsShown.{bytes_of_words}
use Rattle.device_list.specs.CommandsShown.{lent_effect}
use Rattle.rehearse_rules.specs.Execution.{request_of}
use Rattle.rehearse_rules.specs.Needs.{effect_now}
use Rattle.rehearse_rules.proofs.NeedsLemmas.{now_runs}
use Rattle.rehearse_reads.specs.Keys.{all_read}
use Rattle.rehearse_reads.specs.Accesses.{copied_keys, handing_reads}
use Rattle.rehearse_reports.specs.Reports.{Reports}
use Rattle.rehearse_reports.specs.ReportsShown.{accesses_shown}
use Rattle.rehearse_reports.proofs.CallLemmas.{now_steady, now_sets, asks_in_room, needed_in_room}
use Rattle.rehearse_reports.proofs.NamedLemmas.{ok_as}
use Rattle.rehearse_reports.proofs.calls.report_listed.Goals as goal

pub returns : goal.returns
returns c limits s =
    let effect = lent_effect c.args.effect in
    let words = bytes_of_words c.args.words.now in
    let request = request_of c.args.name.now words (effect_now limits.room s effect) in
    let before = accesses_shown c.args.reported.now in
    let needed = accesses_shown c.report_needs.new.reported in
    let told = accesses_shown c.report_told.new.reported in
    let after = accesses_shown c.report_early.new.reported in
    ok_as c.report_early.result
    (λ early. needed_in_room before needed after limits request s effect c.in_ok-report_needs.ensures
    (asks_in_room needed told after limits request s effect.sets (now_sets limits.room s effect) (c.in_ok-report_told.ensures request refl refl (now_steady limits.room s effect))
    (subst (Reports told after) (λ i. handing_reads (sym (now_runs limits.room s effect) i) ++ all_read (copied_keys (sym (now_sets limits.room s effect) i))) early)))
    c.report_early.ensures
