use Rattle.std.proofs.Common.{ap, map, sym, ◌∙◌}
use Rattle.std.specs.List.{flat_map}
use Rattle.hushlang.specs.TreesShown as view
use Rattle.hushcheck.specs.Names.{run_by_arm, run_by_command, run_by_list, run_by_script}
use Rattle.hushcheck.specs.Order.{with_names}
use Rattle.hushcheck.proofs.OrderLemmas.{names_all, names_item, with_names-append}
use Rattle.hushcheck.proofs.WalkLemmas.{arms_map, by_arms, by_commands, by_for, by_lists, by_loop, by_values, by_words, ok_so, two_scripts, with_other, without_other}
use Rattle.hushcheck.proofs.walk.+walk.Goals as goal

pub add_arms-loop-cond-preserved : goal.add_arms-loop-cond-preserved
add_arms-loop-cond-preserved t c =
    let item = c.loop-cond-item.result in
    let both = two_scripts c.loop-cond.names c.add_script.new.names c.add_script-in-loop-cond.new.names c.deref.result.now c.deref-in-loop-cond.result.now item.0.value item.1.value c.deref.ensures c.deref-in-loop-cond.ensures c.in_ok-add_script.ensures c.in_ok-add_script-2.ensures in
    names_item (λ arm. run_by_arm (view.arm arm)) c.args.names.now c.args.arms.now c.loop-cond.names c.add_script-in-loop-cond.new.names c.loop-cond.cond-index item c.loop-cond-test.true c.loop-cond-item.is c.loop-cond.invariant both

pub add_arms-returns : goal.add_arms-returns
add_arms-returns t c =
    names_all (λ arm. run_by_arm (view.arm arm)) c.args.names.now c.args.arms.now c.loop-cond.names c.loop-cond.cond-index c.loop-cond-test.false c.loop-cond.invariant
    ∙ ap (with_names c.args.names.now) (arms_map c.args.arms.now)

pub add_command-returns-in-Simple : goal.add_command-returns-in-Simple
add_command-returns-in-Simple t c =
    let e = by_words c.args.command.now c.in-Simple.call c.words.result.now c.in-Simple.is c.words.ensures in
    ok_so c.add_simple.result (λ so. so ∙ ap (with_names c.args.names.now) e) c.add_simple.ensures

pub add_command-returns-in-Assign : goal.add_command-returns-in-Assign
add_command-returns-in-Assign t c = ap (with_names c.args.names.now) (by_values c.args.command.now c.in-Assign.field-0 c.in-Assign.is)

pub add_command-returns-in-Some : goal.add_command-returns-in-Some
add_command-returns-in-Some t c =
    let arms = flat_map run_by_arm (map view.arm c.deref.result.now) in
    let e = by_arms c.args.command.now c.in-If.arms c.in-If.other c.deref.result.now c.in-If.is c.deref.ensures.value in
    ok_so c.add_script.result (λ so. with_other c.args.names.now c.add_arms.new.names c.add_script.new.names arms c.deref-in-Some.result.now c.in-Some.body c.in-If.other c.in-Some.is c.deref-in-Some.ensures c.in_ok-add_arms-in-If.ensures so ∙ ap (with_names c.args.names.now) e) c.add_script.ensures

pub add_command-returns-in-None : goal.add_command-returns-in-None
add_command-returns-in-None t c =
    let arms = flat_map run_by_arm (map view.arm c.deref.result.now) in
    without_other c.args.names.now c.add_arms.new.names arms c.in-If.other c.in-None.is c.in_ok-add_arms-in-If.ensures
    ∙ ap (with_names c.args.names.now) (by_arms c.args.command.now c.in-If.arms c.in-If.other c.deref.result.now c.in-If.is c.deref.ensures.value)

pub add_command-returns-in_ok-add_script-in-Loop : goal.add_command-returns-in_ok-add_script-in-Loop
add_command-returns-in_ok-add_script-in-Loop t c =
    let e = by_loop c.args.command.now c.in-Loop.until c.in-Loop.cond c.in-Loop.body c.in-Loop.is in
    ok_so c.add_script-in-Loop-2.result (λ so. two_scripts c.args.names.now c.add_script-in-Loop.new.names c.add_script-in-Loop-2.new.names c.deref-in-Loop.result.now c.deref-in-Loop-2.result.now c.in-Loop.cond.value c.in-Loop.body.value c.deref-in-Loop.ensures c.deref-in-Loop-2.ensures c.in_ok-add_script-in-Loop.ensures so ∙ ap (with_names c.args.names.now) e) c.add_script-in-Loop-2.ensures

pub add_command-returns-in-For : goal.add_command-returns-in-For
add_command-returns-in-For t c =
    let e = ap (λ s. run_by_script (view.script s)) c.deref-in-For.ensures ∙ by_for c.args.command.now c.in-For.name c.in-For.words c.in-For.body c.in-For.is in
    ok_so c.add_script-in-For.result (λ so. so ∙ ap (with_names c.args.names.now) e) c.add_script-in-For.ensures

pub add_list-loop-joined-preserved : goal.add_list-loop-joined-preserved
add_list-loop-joined-preserved t c =
    names_item (λ p. run_by_command (view.command p.1)) c.add_command.new.names c.deref-joined-items.result.now c.loop-joined.names c.add_command-in-loop-joined.new.names c.loop-joined.joined-index c.joined-item.result
    c.loop-joined-test.true c.joined-item.is c.loop-joined.invariant c.in_ok-add_command-2.ensures

pub add_list-returns : goal.add_list-returns
add_list-returns t c =
    let first = run_by_command (view.command c.args.list.now.first) in
    let rest = flat_map (λ p. run_by_command (view.command p.1)) c.deref-joined-items.result.now in
    names_all (λ p. run_by_command (view.command p.1)) c.add_command.new.names c.deref-joined-items.result.now c.loop-joined.names c.loop-joined.joined-index c.loop-joined-test.false c.loop-joined.invariant
    ∙ ap (λ ns. with_names ns rest) c.in_ok-add_command.ensures ∙ sym (with_names-append c.args.names.now first rest)
    ∙ ap (with_names c.args.names.now) (by_commands c.args.list.now c.deref-joined-items.result.now c.deref-joined-items.ensures.value)

pub add_script-loop-list-preserved : goal.add_script-loop-list-preserved
add_script-loop-list-preserved t c =
    names_item (λ list. run_by_list (view.list list)) c.args.names.now c.deref-list-items.result.now c.loop-list.names c.add_list.new.names c.loop-list.list-index c.list-item.result
    c.loop-list-test.true c.list-item.is c.loop-list.invariant c.in_ok-add_list.ensures

pub add_script-returns : goal.add_script-returns
add_script-returns t c =
    names_all (λ list. run_by_list (view.list list)) c.args.names.now c.deref-list-items.result.now c.loop-list.names c.loop-list.list-index c.loop-list-test.false c.loop-list.invariant
    ∙ ap (with_names c.args.names.now) (by_lists c.args.script.now c.deref-list-items.result.now c.deref-list-items.ensures.value)
