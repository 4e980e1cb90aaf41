use Rattle.std.proofs.Common.{ℕ, ap, sym, ◌∙◌, ◌∷◌, suc, List, subst, Option}
use Rattle.std.specs.Prelude.{Vec}
use Rattle.std.specs.declared.alloc.Global.{Global}
use Rattle.hushlang.specs.TreesShown as view
use Rattle.rehearse_rules.specs.ByShell.{assigned_in}
use Rattle.bootstore_state.specs.Record.{without_first}
use Rattle.bootstore_state.specs.declared.frame.At.{At}
use Rattle.bootstore_state.specs.Moment.{RunningFrame}
use Rattle.rehearse_machine.specs.Places.{behind, place}
use Rattle.rehearse_machine.specs.Variables.{parameters_at}
use Rattle.rehearse_machine.specs.MovesShown.{under, IsExpandedOne}
use Rattle.rehearse_machine.proofs.AssignLemmas.{none_assigned, next_assigned, value_too_long, all_assigned}
use Rattle.rehearse_machine.proofs.assigns.assign.Goals as goal

pub loop-value-init : goal.loop-value-init
loop-value-init g c = none_assigned c.args.shell c.args.values.now (behind c.args.frame.now ∷ under (g.S.Store.record_of c.args.store.now).present) (g.S.Store.record_of c.args.store.now)

pub returns-in_default : goal.returns-in_default
returns-in_default g c top =
    let old = g.S.Store.record_of c.args.store.now in
    let now = g.S.Store.record_of c.loop-value.store in
    let d = c.value-item.result in
    let found = subst (λ (o : Option (Vec ℕ Global)). IsExpandedOne o (assigned_in c.args.shell (parameters_at now.present) (view.word d.1))) c.in_default.is c.in_ok-found.ensures in
    value_too_long c.args.shell c.args.values.now c.loop-value.value-index (behind c.args.frame.now ∷ under old.present) old now d c.loop-value-test.true c.value-item.is c.loop-value.invariant found

pub loop-value-preserved : goal.loop-value-preserved
loop-value-preserved g c =
    let old = g.S.Store.record_of c.args.store.now in
    let now = g.S.Store.record_of c.loop-value.store in
    let d = c.value-item.result in
    let found = subst (λ (o : Option (Vec ℕ Global)). IsExpandedOne o (assigned_in c.args.shell (parameters_at now.present) (view.word d.1))) c.in-Some.is c.in_ok-found.ensures in
    next_assigned c.args.shell c.args.values.now c.loop-value.value-index (behind c.args.frame.now ∷ under old.present) old now d c.loop-value-test.true c.value-item.is c.loop-value.invariant
    (g.S.Store.record_of c.assign_one.new.store) c.deref.result.now c.deref-in-loop-value.result.now c.deref.ensures.value (c.deref-in-loop-value.ensures.value ∙ found.0) found.1 c.in_ok-assign_one.ensures

pub returns : goal.returns
returns g c top =
    let old = g.S.Store.record_of c.args.store.now in
    let now = g.S.Store.record_of c.loop-value.store in
    let e = c.loop-value.invariant.frames in
    let still = e ∙ top ∙ sym (ap (λ (x : List RunningFrame). c.args.frame.now ∷ without_first x) e) in
    all_assigned c.args.shell c.finish.result c.args.values.now c.loop-value.value-index c.args.frame.now old now (g.S.Store.record_of c.finish.new.store) c.behind.result c.loop-value-test.false c.loop-value.invariant
    (c.behind.ensures ∙ ap (λ (x : At). place x.list (suc x.command) 0 0) c.at.ensures) (c.finish.ensures c.args.frame.now still)
