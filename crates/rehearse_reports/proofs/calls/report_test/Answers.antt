use Rattle.std.proofs.Common.{ap, sym, refl, ◌∙◌}
use Rattle.text.specs.TextsShown.{bytes_of_words}
use Rattle.rehearse_terms.specs.declared.shell.Shell.{Shell}
use Rattle.rehearse_rules.specs.ByShell.{question_in}
use Rattle.rehearse_rules.specs.Execution.{test_request}
use Rattle.rehearse_machine.specs.MovesShown.{limits_of}
use Rattle.rehearse_reports.specs.ReportsShown.{accesses_shown}
use Rattle.rehearse_reports.proofs.NamedLemmas.{test_quiet, test_asks, ok_as}
use Rattle.rehearse_reports.proofs.CallLemmas.{asks_alone}
use Rattle.rehearse_reports.proofs.calls.report_test.Goals as goal

pub returns-then-not-asks_in : goal.returns-then-not-asks_in
returns-then-not-asks_in c s =
    test_quiet (limits_of c.args.devices.now c.args.bounds) c.args.name.now (bytes_of_words c.args.words.now) s (accesses_shown c.args.reported.now) c.shell.result c.shell.ensures c.if-not-asks_in.ensures

pub returns : goal.returns
returns c s =
    let limits = limits_of c.args.devices.now c.args.bounds in
    let words = bytes_of_words c.args.words.now in
    let before = accesses_shown c.args.reported.now in
    let after = accesses_shown c.report_told.new.reported in
    let request = test_request limits c.args.name.now words in
    test_asks limits c.args.name.now words s c.report_told.result before after c.shell.result c.shell.ensures c.if-not-asks_in.ensures
    (ok_as c.report_told.result (asks_alone before after limits request s refl)
    (c.report_told.ensures request refl
    (sym (ap bytes_of_words c.deref.ensures.value ∙ c.in_ok-question.ensures ∙ ap (λ (x : Shell). question_in x words) c.shell-2.ensures))
    (λ e. c.test_stays.ensures ∙ e)))
