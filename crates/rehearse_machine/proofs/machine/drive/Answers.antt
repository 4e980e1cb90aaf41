use Rattle.std.proofs.Common.{sym, ◌∙◌, subst, arith}
use Rattle.rehearse_machine.specs.declared.ask.Step.{Step}
use Rattle.rehearse_machine.specs.MovesShown.{limits_of}
use Rattle.rehearse_machine.specs.Turning.{Drives}
use Rattle.rehearse_machine.proofs.TurnLemmas.{driven, came_on, further_steps, same_steps, on_lighter}
use Rattle.rehearse_machine.proofs.machine.drive.Goals as goal

pub turns-smaller : goal.turns-smaller
turns-smaller g c =
    let limits = limits_of c.args.devices.now c.args.bounds in
    let old = g.S.Store.record_of c.args.store.now in
    let mid = g.S.Store.record_of c.turns.store in
    let after = g.S.Store.record_of c.turn.new.store in
    let k = further_steps limits c.in_ok-turn.field-0 old mid after c.turns.invariant c.in_ok-turn.ensures c.in-Going.is in
    let same = same_steps after (g.S.Store.record_of c.drop_ended.new.store) c.in_ok-drop_ended-in-Going.ensures in
    omega arith

pub turns-preserved : goal.turns-preserved
turns-preserved g c =
    let limits = limits_of c.args.devices.now c.args.bounds in
    let old = g.S.Store.record_of c.args.store.now in
    let mid = g.S.Store.record_of c.turns.store in
    let after = g.S.Store.record_of c.turn.new.store in
    on_lighter limits old after (g.S.Store.record_of c.drop_ended.new.store)
    (came_on limits c.in_ok-turn.field-0 old mid after c.turns.invariant c.in_ok-turn.ensures c.in-Going.is)
    c.in_ok-drop_ended-in-Going.ensures

pub returns-in-Asks : goal.returns-in-Asks
returns-in-Asks g c =
    let limits = limits_of c.args.devices.now c.args.bounds in
    let old = g.S.Store.record_of c.args.store.now in
    let mid = g.S.Store.record_of c.turns.store in
    let new = g.S.Store.record_of c.turn.new.store in
    subst (λ (x : Step). Drives limits x old new) c.in-Asks.is (driven limits c.in_ok-turn.field-0 old mid new c.turns.invariant c.in_ok-turn.ensures (λ e. let f = sym c.in-Asks.is ∙ e in cc))

pub returns-in-Ends : goal.returns-in-Ends
returns-in-Ends g c =
    let limits = limits_of c.args.devices.now c.args.bounds in
    let old = g.S.Store.record_of c.args.store.now in
    let mid = g.S.Store.record_of c.turns.store in
    let new = g.S.Store.record_of c.turn.new.store in
    subst (λ (x : Step). Drives limits x old new) c.in-Ends.is (driven limits c.in_ok-turn.field-0 old mid new c.turns.invariant c.in_ok-turn.ensures (λ e. let f = sym c.in-Ends.is ∙ e in cc))
