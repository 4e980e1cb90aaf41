use Rattle.std.proofs.Common.{ap, ◌∙◌, sym, ℕ, suc, nat_eq, add-one, map, refl}
use Rattle.hushlang.specs.TreesShown as view
use Rattle.hushlang.specs.declared.tree.Script.{Script as Code}
use Rattle.rehearse_terms.specs.declared.shell.Shell.{Shell}
use Rattle.rehearse_rules.specs.ByShell.{status_of_skipped}
use Rattle.rehearse_rules.specs.Execution.{set_status}
use Rattle.bootstore_state.specs.declared.frame.At.{At}
use Rattle.rehearse_machine.specs.Places.{place, place_arms, drop_arms, under_block}
use Rattle.rehearse_machine.proofs.ArmLemmas.{block_entered, next_arm, past_arms, not_zero}
use Rattle.rehearse_machine.proofs.blocks.end_condition.Goals as goal

pub returns-in-Some : goal.returns-in-Some
returns-in-Some c limits fs s own e =
    let at = ap (under_block c.args.shell) c.at.ensures ∙ ap (λ (x : Shell). under_block x c.args.frame.now.place) (sym own) in
    block_entered limits.shell c.args.arms.now (view.script_in c.args.other.now) c.args.arm c.args.frame.now fs c.under_block.result s c.in-Some.field-0.now _ c.in-Some.ensures.lookup.3.0 c.in-Some.ensures.lookup.1
    (ap (λ (x : ℕ). nat_eq x 0) (e ∙ c.if-status-eq0.true)) refl (c.under_block.ensures ∙ at)

pub returns-in-Some-2 : goal.returns-in-Some-2
returns-in-Some-2 c limits fs s own e =
    let all = view.arms (map view.arm c.args.arms.now) (view.script_in c.args.other.now) in
    let body = view.script c.in-Some.field-0.now.1.value in
    let skipped = c.status_of_skipped-skipped.ensures ∙ ap (λ (x : Code). status_of_skipped c.args.shell (view.script x) c.args.status) c.deref.ensures ∙ ap (λ (x : Shell). status_of_skipped x body c.args.status) (sym own) ∙ ap (status_of_skipped limits.shell body) (sym e) in
    c.skip_to_arm.ensures limits fs s own
    ∙ ap (λ (x : ℕ). place_arms limits.shell (drop_arms x all) x c.args.frame.now fs (set_status c.status_of_skipped-skipped.result s)) (add-one c.args.arm)
    ∙ ap (λ (x : ℕ). place_arms limits.shell (drop_arms (suc c.args.arm) all) (suc c.args.arm) c.args.frame.now fs (set_status x s)) skipped
    ∙ next_arm limits.shell c.args.arms.now (view.script_in c.args.other.now) c.args.arm c.args.frame.now fs c.args.frame.now.place s c.in-Some.field-0.now c.in-Some.ensures.lookup.3.0 c.in-Some.ensures.lookup.1
    (not_zero s.memory.status (λ z. c.if-status-eq0.false (sym e ∙ z)))

pub returns-in-None : goal.returns-in-None
returns-in-None c limits fs s own e =
    let at = ap (λ (x : At). place x.list (suc x.command) 0 0) c.at-in-None.ensures in
    past_arms limits.shell c.args.arms.now (view.script_in c.args.other.now) c.args.arm c.args.frame.now fs c.behind.result s c.in-None.ensures.lookup.3 (c.behind.ensures ∙ at)
