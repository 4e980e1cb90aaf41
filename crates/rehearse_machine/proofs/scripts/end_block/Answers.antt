use Rattle.std.proofs.Common.{ap, ◌∙◌, sym, suc}
use Rattle.bootstore_state.specs.declared.frame.At.{At}
use Rattle.rehearse_machine.specs.Places.{place}
use Rattle.rehearse_machine.proofs.CommandLemmas.{if_ends, loop_checked, loop_again, no_block_simple, no_block_assign, no_block_for, if_is_over}
use Rattle.rehearse_machine.proofs.NextMoveLemmas.{has_room}
use Rattle.rehearse_machine.proofs.scripts.end_block.Goals as goal

pub returns-then-is_over-clause-next : goal.returns-then-is_over-clause-next
returns-then-is_over-clause-next c limits fs s own e =
    let at = ap (λ (x : At). place x.list (suc x.command) 0 0) c.at.ensures in
    if_is_over limits.shell c.args.command.now c.args.turn c.args.frame.now fs s c.in-If.arms c.in-If.other c.behind.result c.in-If.is (λ z. c.if-is_over.true (ap (λ (x : At). x.last) c.at-is_over.ensures ∙ z)) (c.behind.ensures ∙ at)

pub returns-else-is_over-clause-next : goal.returns-else-is_over-clause-next
returns-else-is_over-clause-next c limits fs s own e =
    c.end_condition.ensures limits fs s own e
    ∙ if_ends limits.shell c.args.command.now c.args.turn c.args.frame.now fs s c.in-If.arms c.in-If.other c.deref.result.now c.in-If.is c.deref.ensures.value (sym (ap (λ (x : At). x.last) c.at-is_over.ensures) ∙ c.if-is_over.false)

pub returns-then-turn-eq0-clause-next : goal.returns-then-turn-eq0-clause-next
returns-then-turn-eq0-clause-next c limits fs s own e =
    c.end_loop_condition.ensures limits fs s own e
    ∙ loop_checked limits.shell c.args.command.now c.args.turn c.args.frame.now fs s c.in-Loop.until c.in-Loop.cond c.in-Loop.body c.in-Loop.is c.if-turn-eq0.true

pub returns-else-is_over-2-clause-next : goal.returns-else-is_over-2-clause-next
returns-else-is_over-2-clause-next c limits fs s own e =
    c.begin_loop.ensures limits fs s
    ∙ loop_again limits.shell c.args.command.now c.args.turn c.args.frame.now fs s c.in-Loop.until c.in-Loop.cond c.in-Loop.body c.args.status c.in-Loop.is c.if-turn-eq0.false (sym (ap (λ (x : At). x.last) c.at-is_over.ensures) ∙ c.if-is_over-2.false) (sym e)

pub returns-in-Simple-clause-next : goal.returns-in-Simple-clause-next
returns-in-Simple-clause-next c limits fs s own e =
    let at = ap (λ (x : At). place x.list (suc x.command) 0 0) c.at-in-Simple.ensures in
    no_block_simple limits.shell c.args.command.now c.args.turn c.args.frame.now fs s c.in-Simple.field-0 c.behind-in-Simple.result c.in-Simple.is (c.behind-in-Simple.ensures ∙ at)

pub returns-in-Assign-clause-next : goal.returns-in-Assign-clause-next
returns-in-Assign-clause-next c limits fs s own e =
    let at = ap (λ (x : At). place x.list (suc x.command) 0 0) c.at-in-Assign.ensures in
    no_block_assign limits.shell c.args.command.now c.args.turn c.args.frame.now fs s c.in-Assign.field-0 c.behind-in-Assign.result c.in-Assign.is (c.behind-in-Assign.ensures ∙ at)

pub returns-in-For-clause-next : goal.returns-in-For-clause-next
returns-in-For-clause-next c limits fs s own e =
    let at = ap (λ (x : At). place x.list (suc x.command) 0 0) c.at-in-For.ensures in
    no_block_for limits.shell c.args.command.now c.args.turn c.args.frame.now fs s c.in-For.name c.in-For.words c.in-For.body c.behind-in-For.result c.in-For.is (c.behind-in-For.ensures ∙ at)

pub returns-then-turn-eq0-clause-room : goal.returns-then-turn-eq0-clause-room
returns-then-turn-eq0-clause-room c = has_room c.end_loop_condition.result c.args.frame.now c.requires
