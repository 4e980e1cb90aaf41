use Rattle.std.proofs.Common.{subst, sym, ◌∙◌}
use Rattle.rehearse_machine.specs.declared.ask.Step.{Step}
use Rattle.rehearse_machine.specs.MovesShown.{limits_of}
use Rattle.rehearse_machine.specs.Turning.{Turns}
use Rattle.rehearse_machine.proofs.TurnLemmas.{turned, waited, fewer}
use Rattle.rehearse_machine.proofs.machine.turn.Goals as goal

pub returns-then-steps-before : goal.returns-then-steps-before
returns-then-steps-before g c =
    let limits = limits_of c.args.devices.now c.args.bounds in
    let old = g.S.Store.record_of c.args.store.now in
    let mid = g.S.Store.record_of c.moves.store in
    let new = g.S.Store.record_of c.step.new.store in
    subst (λ (x : Step). Turns limits x old new) c.in-Going.is
    (turned limits c.in_ok-step.field-0 old mid new c.moves.invariant c.in_ok-step.ensures (λ e k. c.if-steps-before.true (c.steps.ensures ∙ k ∙ sym c.steps-before.ensures)))

pub moves-smaller : goal.moves-smaller
moves-smaller g c =
    let limits = limits_of c.args.devices.now c.args.bounds in
    let old = g.S.Store.record_of c.args.store.now in
    let mid = g.S.Store.record_of c.moves.store in
    let new = g.S.Store.record_of c.step.new.store in
    fewer limits c.in_ok-step.field-0 old mid new c.moves.invariant c.in_ok-step.ensures c.in-Going.is (sym c.steps.ensures ∙ c.if-steps-before.false ∙ c.steps-before.ensures)

pub moves-preserved : goal.moves-preserved
moves-preserved g c =
    let limits = limits_of c.args.devices.now c.args.bounds in
    let old = g.S.Store.record_of c.args.store.now in
    let mid = g.S.Store.record_of c.moves.store in
    let new = g.S.Store.record_of c.step.new.store in
    waited limits c.in_ok-step.field-0 old mid new c.moves.invariant c.in_ok-step.ensures c.in-Going.is (sym c.steps.ensures ∙ c.if-steps-before.false ∙ c.steps-before.ensures)

pub returns-in-Asks : goal.returns-in-Asks
returns-in-Asks g c =
    let limits = limits_of c.args.devices.now c.args.bounds in
    let old = g.S.Store.record_of c.args.store.now in
    let mid = g.S.Store.record_of c.moves.store in
    let new = g.S.Store.record_of c.step.new.store in
    subst (λ (x : Step). Turns limits x old new) c.in-Asks.is
    (turned limits c.in_ok-step.field-0 old mid new c.moves.invariant c.in_ok-step.ensures (λ e k. let f = sym c.in-Asks.is ∙ e in cc))

pub returns-in-Ends : goal.returns-in-Ends
returns-in-Ends g c =
    let limits = limits_of c.args.devices.now c.args.bounds in
    let old = g.S.Store.record_of c.args.store.now in
    let mid = g.S.Store.record_of c.moves.store in
    let new = g.S.Store.record_of c.step.new.store in
    subst (λ (x : Step). Turns limits x old new) c.in-Ends.is
    (turned limits c.in_ok-step.field-0 old mid new c.moves.invariant c.in_ok-step.ensures (λ e k. let f = sym c.in-Ends.is ∙ e in cc))
