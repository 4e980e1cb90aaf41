use Rattle.std.proofs.Common.{[], ◌≡◌, map, true, nat_lt, arith}
use Rattle.std.proofs.lemmas.Bool.{lt-ltb}
use Rattle.hushlang.specs.Tree as tree
use Rattle.hushlang.specs.TreesShown as view
use Rattle.bootstore_state.specs.StoredState.{state_at}
use Rattle.rehearse_machine.specs.Variables.{parameters_at}
use Rattle.rehearse_machine.specs.MovesShown.{limits_of}
use Rattle.rehearse_machine.proofs.ParameterLemmas.{same_parameters}
use Rattle.rehearse_reports.specs.ReportsShown.{accesses_shown}
use Rattle.rehearse_reports.proofs.CoverLemmas.{none_begun}
use Rattle.rehearse_reports.proofs.FrameLemmas.{not_less}
use Rattle.rehearse_reports.proofs.NamedLemmas.{quietly}
use Rattle.rehearse_reports.proofs.StartLemmas.{assign_empty, assign_too_long, assign_reports}
use Rattle.rehearse_reports.proofs.beginnings.report_assign.Goals as goal

pub returns-then-steps : goal.returns-then-steps
returns-then-steps g c =
    let now = (g.S.Store.record_of c.args.store.now).present in
    let a = c.steps.ensures in let b = c.steps-2.ensures.steps in let h = c.if-steps.true in
    quietly (accesses_shown c.args.reported.now) _ (none_begun (limits_of c.args.devices.now c.args.bounds) (tree.Assign (map view.value c.args.values.now)) (state_at now []) (not_less now.steps c.args.bounds.steps (omega arith)))

pub returns-in_default : goal.returns-in_default
returns-in_default g c = assign_empty (limits_of c.args.devices.now c.args.bounds) (state_at (g.S.Store.record_of c.args.store.now).present []) (accesses_shown c.args.reported.now) c.args.values.now c.in_default.ensures.cases

pub returns-in_default-2 : goal.returns-in_default-2
returns-in_default-2 g c =
    let now = (g.S.Store.record_of c.args.store.now).present in
    let a = c.steps.ensures in let b = c.steps-2.ensures.steps in let h = c.if-steps.false in
    let less : nat_lt now.steps c.args.bounds.steps ≡ true = lt-ltb now.steps c.args.bounds.steps (omega arith) in
    assign_too_long (limits_of c.args.devices.now c.args.bounds) (state_at now []) less c.args.values.now c.in-Some.first.now c.in-Some.rest.now c.in-Some.ensures.cases.0 (accesses_shown c.args.reported.now) (accesses_shown c.report_word.new.reported) c.in_ok-report_word.ensures c.shell.result (parameters_at now) c.shell.ensures (same_parameters now []) c.in_ok-value.field-0 c.in_default-2.is c.in_ok-value.ensures

pub returns : goal.returns
returns g c =
    let now = (g.S.Store.record_of c.args.store.now).present in
    let a = c.steps.ensures in let b = c.steps-2.ensures.steps in let h = c.if-steps.false in
    let less : nat_lt now.steps c.args.bounds.steps ≡ true = lt-ltb now.steps c.args.bounds.steps (omega arith) in
    assign_reports (limits_of c.args.devices.now c.args.bounds) (state_at now []) less c.args.values.now c.in-Some.first.now c.in-Some.rest.now c.in-Some.ensures.cases.0 (accesses_shown c.args.reported.now) (accesses_shown c.report_word.new.reported) c.in_ok-report_word.ensures c.shell.result (parameters_at now) c.shell.ensures (same_parameters now [])
    c.report_values.result (accesses_shown c.report_local.new.reported) (accesses_shown c.report_values.new.reported) c.in_ok-value.field-0 c.in-Some-2.value c.in-Some-2.is c.in_ok-value.ensures c.shell-2.result c.deref.result.now c.deref-2.result.now c.shell-2.ensures c.deref.ensures.value c.deref-2.ensures.value c.in_ok-report_local.ensures c.report_values.ensures
