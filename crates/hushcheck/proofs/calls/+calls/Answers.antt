use Rattle.std.proofs.Common.{◌≡◌, ap, ◌∙◌, map}
use Rattle.std.specs.List.{fold}
use Rattle.hushlang.specs.TreesShown as view
use Rattle.hushcheck.specs.Calls.{after_command, after_list, after_script, after_value, after_word, set_name, skip}
use Rattle.hushcheck.proofs.CallsLemmas.{after_other, by_arms, by_commands, by_for, by_lists, by_loop, by_values, by_words, fold_all, fold_item, two_scripts, with_other, without_other}
use Rattle.hushcheck.proofs.WalkLemmas.{ok_so}
use Rattle.hushcheck.proofs.calls.+calls.Goals as goal
use Rattle.hushcheck.proofs.calls.+calls.Goals.{read_command-in-Some+in_ok-read_script-in-Some, read_command-in-None}

pub read_list-loop-joined-preserved : goal.read_list-loop-joined-preserved
read_list-loop-joined-preserved t c =
    fold_item (λ q p. after_command q (view.command p.1)) c.read_command.new.reading c.loop-joined.reading c.read_command-in-loop-joined.new.reading c.deref-joined-items.result.now c.loop-joined.joined-index c.joined-item.result
    c.loop-joined-test.true c.joined-item.is c.loop-joined.invariant c.in_ok-read_command-2.ensures

pub read_script-loop-list-preserved : goal.read_script-loop-list-preserved
read_script-loop-list-preserved t c =
    fold_item (λ q list. after_list q (view.list list)) c.args.reading.now c.loop-list.reading c.read_list.new.reading c.deref-list-items.result.now c.loop-list.list-index c.list-item.result
    c.loop-list-test.true c.list-item.is c.loop-list.invariant c.in_ok-read_list.ensures

pub read_script-returns : goal.read_script-returns
read_script-returns t c =
    fold_all (λ q list. after_list q (view.list list)) c.args.reading.now c.loop-list.reading c.deref-list-items.result.now c.loop-list.list-index c.loop-list-test.false c.loop-list.invariant
    ∙ by_lists c.args.reading.now c.args.script.now c.deref-list-items.result.now c.deref-list-items.ensures.value

pub read_list-returns : goal.read_list-returns
read_list-returns t c =
    fold_all (λ q p. after_command q (view.command p.1)) c.read_command.new.reading c.loop-joined.reading c.deref-joined-items.result.now c.loop-joined.joined-index c.loop-joined-test.false c.loop-joined.invariant
    ∙ ap (λ q. fold (λ q p. after_command q (view.command p.1)) q c.deref-joined-items.result.now) c.in_ok-read_command.ensures
    ∙ by_commands c.args.reading.now c.args.list.now c.deref-joined-items.result.now c.deref-joined-items.ensures.value

pub read_command-returns-in-Simple : goal.read_command-returns-in-Simple
read_command-returns-in-Simple t c =
    ok_so c.read_words.result (λ so. so ∙ by_words c.args.reading.now c.args.command.now c.in-Simple.call c.words.result.now c.in-Simple.is c.words.ensures) c.read_words.ensures

pub read_command-returns-in-Assign : goal.read_command-returns-in-Assign
read_command-returns-in-Assign t c =
    let all = ap (λ vs. fold after_value c.args.reading.now (map view.value vs)) c.deref.ensures.value in
    ok_so c.read_values.result (λ so. so ∙ all ∙ by_values c.args.reading.now c.args.command.now c.in-Assign.values c.in-Assign.is) c.read_values.ensures

pub read_command-returns-after-other : goal.read_command-returns-after-other
read_command-returns-after-other t c =
    let a = c.read_arms.new.reading in
    let all = by_arms c.args.reading.now c.args.command.now c.in-If.arms c.in-If.other c.deref-in-If.result.now c.in-If.is c.deref-in-If.ensures.value in
    let arms = ap (λ q. skip 1 (after_other q (view.script_in c.in-If.other))) c.in_ok-read_arms-in-If.ensures in
    let so : c.match-other.reading ≡ after_other a (view.script_in c.in-If.other) = elim c.match-other.branch [
      | read_command-in-Some+in_ok-read_script-in-Some w ↦ w.reading-is ∙ with_other a w.skip.new.self w.read_script.new.reading w.deref-in-Some.result.now w.in-Some.body c.in-If.other w.in-Some.is w.deref-in-Some.ensures w.skip.ensures w.in_ok-read_script-in-Some.ensures
      | read_command-in-None w ↦ w.reading-is ∙ without_other a c.in-If.other w.in-None.is
    ] in
    c.skip-in-If.ensures ∙ ap (skip 1) so ∙ arms ∙ all

pub read_command-returns-in_ok-read_script-in-For : goal.read_command-returns-in_ok-read_script-in-For
read_command-returns-in_ok-read_script-in-For t c =
    let r = c.args.reading.now in
    let named = c.in_ok-set-in-For.ensures ∙ ap (λ name. set_name name r) c.deref-in-For.ensures.value in
    let passed = c.in_ok-pass_words-in-For.ensures ∙ ap (λ ws. fold after_word c.skip-in-For.new.self (map view.word ws)) c.deref-in-For-2.ensures.value in
    let begun = c.skip-in-For-2.ensures ∙ ap (skip 1) (passed ∙ ap (λ q. fold after_word q (map view.word c.in-For.words.items)) (c.skip-in-For.ensures ∙ ap (skip 3) named)) in
    c.skip-in-For-3.ensures
    ∙ ap (skip 1) (c.in_ok-read_script-in-For.ensures ∙ ap (λ q. after_script q (view.script c.deref-in-For-3.result.now)) begun
    ∙ ap (λ s. after_script (skip 1 (fold after_word (skip 3 (set_name c.in-For.name.items r)) (map view.word c.in-For.words.items))) (view.script s)) c.deref-in-For-3.ensures)
    ∙ by_for r c.args.command.now c.in-For.name c.in-For.words c.in-For.body c.in-For.is

pub read_command-returns-in_ok-read_script-in-Loop-2 : goal.read_command-returns-in_ok-read_script-in-Loop-2
read_command-returns-in_ok-read_script-in-Loop-2 t c =
    let r = c.args.reading.now in
    c.skip-in-Loop-3.ensures
    ∙ ap (skip 1) (two_scripts r c.skip-in-Loop.new.self c.read_script-in-Loop.new.reading c.skip-in-Loop-2.new.self c.read_script-in-Loop-2.new.reading c.deref-in-Loop.result.now c.deref-in-Loop-2.result.now c.in-Loop.cond.value c.in-Loop.body.value
    c.deref-in-Loop.ensures c.deref-in-Loop-2.ensures c.skip-in-Loop.ensures c.in_ok-read_script-in-Loop.ensures c.skip-in-Loop-2.ensures c.in_ok-read_script-in-Loop-2.ensures)
    ∙ by_loop r c.args.command.now c.in-Loop.until c.in-Loop.cond c.in-Loop.body c.in-Loop.is
