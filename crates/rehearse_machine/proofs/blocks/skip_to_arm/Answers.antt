use Rattle.std.proofs.Common.{ap, ◌∙◌, sym, suc, refl}
use Rattle.rehearse_terms.specs.declared.shell.Shell.{Shell}
use Rattle.rehearse_rules.specs.ByShell.{status_of_no_block}
use Rattle.rehearse_rules.specs.Execution.{set_status}
use Rattle.hushlang.specs.TreesShown as view
use Rattle.bootstore_state.specs.declared.frame.At.{At}
use Rattle.rehearse_machine.specs.Places.{place, under_block}
use Rattle.rehearse_machine.proofs.ArmLemmas.{arm_entered, other_entered, none_entered}
use Rattle.rehearse_machine.proofs.blocks.skip_to_arm.Goals as goal

pub returns-in-Some : goal.returns-in-Some
returns-in-Some c limits fs s own =
    let at = ap (λ (x : At). place x.list x.command (suc c.args.arm) 0) c.at-at.ensures in
    arm_entered limits.shell c.args.arms.now (view.script_in c.args.other.now) c.args.arm c.args.frame.now fs c.in_turn.result (set_status c.args.skipped s) c.in-Some.field-0.now _ c.in-Some.ensures.lookup.3.0 c.in-Some.ensures.lookup.1
    refl (c.in_turn.ensures ∙ at)

pub returns-in-Some-other : goal.returns-in-Some-other
returns-in-Some-other c limits fs s own =
    let at = ap (under_block c.args.shell) c.at-at.ensures ∙ ap (λ (x : Shell). under_block x c.args.frame.now.place) (sym own) in
    other_entered limits.shell c.args.arms.now (view.script_in c.args.other.now) c.args.arm c.args.frame.now fs c.under_block.result (set_status c.args.skipped s) (view.script c.in-Some-other.body.value) _ (ap view.script_in c.in-Some-other.is) c.in_default.ensures.lookup.3
    refl (c.under_block.ensures ∙ at)

pub returns-in-None : goal.returns-in-None
returns-in-None c limits fs s own =
    let at = ap (λ (x : At). place x.list (suc x.command) 0 0) c.at-at.ensures in
    none_entered limits.shell c.args.arms.now (view.script_in c.args.other.now) c.args.arm c.args.frame.now fs c.behind.result (set_status c.args.skipped s) c.status_of_no_block.result (c.status_of_no_block.ensures ∙ ap (λ (x : Shell). status_of_no_block x c.args.skipped) (sym own)) (ap view.script_in c.in-None.is) c.in_default.ensures.lookup.3 (c.behind.ensures ∙ at)
