use Rattle.std.proofs.Common.{◌≡◌, sym, ap, ◌∙◌, Some, None, rules, map}
use Rattle.std.specs.Option.{option_map}
use Rattle.std.specs.List.{slice_get}
use Rattle.hushlang.specs.TreesShown as view
use Rattle.rehearse_machine.specs.AskingCommand.{words_in_front}
use Rattle.rehearse_reports.specs.Reports.{memory_at}
use Rattle.rehearse_reports.specs.ReportsShown.{accesses_shown}
use Rattle.rehearse_reports.proofs.AskedLemmas.{no_frame, no_call, call_asked}
use Rattle.rehearse_reports.proofs.asked.report_asked.Goals as goal

pub returns-in_default : goal.returns-in_default
returns-in_default g c =
    let m = (g.S.Store.record_of c.args.store.now).present in
    let none : None ≡ slice_get m.frames 0 = search rules in
    no_frame (accesses_shown c.args.reported.now) (memory_at m) m.frames none

pub returns-in_default-call_in_front : goal.returns-in_default-call_in_front
returns-in_default-call_in_front g c =
    let m = (g.S.Store.record_of c.args.store.now).present in
    let top : Some c.in-Some.top.now ≡ slice_get m.frames 0 = search rules in
    let none : None ≡ words_in_front c.in-Some.top.now = search rules in
    no_call (accesses_shown c.args.reported.now) (memory_at m) m.frames c.in-Some.top.now top none

pub returns : goal.returns
returns g c =
    let m = (g.S.Store.record_of c.args.store.now).present in
    let top : Some c.in-Some.top.now ≡ slice_get m.frames 0 = search rules in
    let words : Some (map view.word c.words.result.now) ≡ words_in_front c.in-Some.top.now = search rules in
    call_asked c.report_words.result (accesses_shown c.args.reported.now) (accesses_shown c.report_words.new.reported) (memory_at m) m.frames c.in-Some.top.now (map view.word c.words.result.now) top words c.report_words.ensures
