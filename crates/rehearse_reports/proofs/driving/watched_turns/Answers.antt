use Rattle.std.proofs.Common.{◌∙◌, subst, arith}
use Rattle.bootstore_state.specs.Present.{moment_of}
use Rattle.rehearse_machine.specs.declared.ask.Step.{Step}
use Rattle.rehearse_machine.specs.declared.ask.Step.TheVariants as steps
use Rattle.rehearse_machine.specs.MovesShown.{limits_of}
use Rattle.rehearse_machine.specs.Turning.{Turns}
use Rattle.rehearse_machine.proofs.TurnLemmas.{further_steps, on_first, same_steps}
use Rattle.rehearse_frames.specs.Above.{without_lowest}
use Rattle.rehearse_reports.specs.ReportsShown.{accesses_shown}
use Rattle.rehearse_reports.proofs.LoopingLemmas.{Goes_on, goes_on, leads_first, all_leads_follow, on_turns, turn_follows, turns_then, turns_and_rounds}
use Rattle.rehearse_reports.proofs.driving.watched_turns.Goals as goal

pub turns-init : goal.turns-init
turns-init g c =
    let limits = limits_of c.args.devices.now c.args.bounds in
    let old = g.S.Store.record_of c.args.store.now in (
      on_first limits old c.requires.sound c.requires.steps,
      λ below within. leads_first limits (without_lowest below old.present) (accesses_shown c.args.reported.now),
      c.in_ok-first.ensures ∙ c.present.ensures,
      omega arith,
    )

pub turns-smaller : goal.turns-smaller
turns-smaller g c =
    let limits = limits_of c.args.devices.now c.args.bounds in
    let old = g.S.Store.record_of c.args.store.now in
    let mid = g.S.Store.record_of c.turns.store in
    let turned = g.S.Store.record_of c.reported_turn.new.store in
    let new = g.S.Store.record_of c.drop_noted.new.store in
    let before = accesses_shown c.args.reported.now in
    let after = accesses_shown c.reported_turn.new.reported in
    let left = c.drop_noted.new.fewest in
    let goes : Goes_on limits left old new before after = goes_on limits c.in_ok-reported_turn.field-0 c.turns.fewest c.reported_turn.new.fewest left old mid turned new before (accesses_shown c.turns.reported) after c.in_ok-reported_turn.ensures.fewer c.in_ok-drop_noted-in-Going.ensures.fewer c.in-Going.is c.turns.invariant.0 c.turns.invariant.1 c.in_ok-reported_turn.ensures.turns c.in_ok-reported_turn.ensures.moves c.in_ok-drop_noted-in-Going.ensures.drops c.in_ok-drop_noted-in-Going.ensures.alike in
    let grown = further_steps limits c.in_ok-reported_turn.field-0 old mid turned c.turns.invariant.0 c.in_ok-reported_turn.ensures.turns c.in-Going.is in
    let same = same_steps turned new c.in_ok-drop_noted-in-Going.ensures.drops in
    omega arith

pub turns-preserved : goal.turns-preserved
turns-preserved g c =
    let limits = limits_of c.args.devices.now c.args.bounds in
    let old = g.S.Store.record_of c.args.store.now in
    let mid = g.S.Store.record_of c.turns.store in
    let turned = g.S.Store.record_of c.reported_turn.new.store in
    let new = g.S.Store.record_of c.drop_noted.new.store in
    let before = accesses_shown c.args.reported.now in
    let after = accesses_shown c.reported_turn.new.reported in
    let left = c.drop_noted.new.fewest in
    let goes : Goes_on limits left old new before after = goes_on limits c.in_ok-reported_turn.field-0 c.turns.fewest c.reported_turn.new.fewest left old mid turned new before (accesses_shown c.turns.reported) after c.in_ok-reported_turn.ensures.fewer c.in_ok-drop_noted-in-Going.ensures.fewer c.in-Going.is c.turns.invariant.0 c.turns.invariant.1 c.in_ok-reported_turn.ensures.turns c.in_ok-reported_turn.ensures.moves c.in_ok-drop_noted-in-Going.ensures.drops c.in_ok-drop_noted-in-Going.ensures.alike in
    (goes.on, goes.leads, c.turns.invariant.2, let before_all = c.turns.invariant.3 in let turn = c.in_ok-reported_turn.ensures.fewer in let drop = c.in_ok-drop_noted-in-Going.ensures.fewer in omega arith)

pub returns-then-is_back-clause-turns : goal.returns-then-is_back-clause-turns
returns-then-is_back-clause-turns g c =
    let limits = limits_of c.args.devices.now c.args.bounds in
    let old = g.S.Store.record_of c.args.store.now in
    let mid = g.S.Store.record_of c.turns.store in
    let turned = g.S.Store.record_of c.reported_turn.new.store in
    let new = g.S.Store.record_of c.drop_noted.new.store in
    let before = accesses_shown c.args.reported.now in
    let after = accesses_shown c.reported_turn.new.reported in
    let left = c.drop_noted.new.fewest in
    let goes : Goes_on limits left old new before after = goes_on limits c.in_ok-reported_turn.field-0 c.turns.fewest c.reported_turn.new.fewest left old mid turned new before (accesses_shown c.turns.reported) after c.in_ok-reported_turn.ensures.fewer c.in_ok-drop_noted-in-Going.ensures.fewer c.in-Going.is c.turns.invariant.0 c.turns.invariant.1 c.in_ok-reported_turn.ensures.turns c.in_ok-reported_turn.ensures.moves c.in_ok-drop_noted-in-Going.ensures.drops c.in_ok-drop_noted-in-Going.ensures.alike in
    let late = g.S.Store.record_of c.begin_rounds.new.store in
    (turns_and_rounds limits left (moment_of c.in_ok-first.first) old new late before after c.steps.result c.turns.invariant.2 c.steps.ensures goes (c.is_back.ensures c.if-is_back.true) c.in_ok-begin_rounds-in-Going.ensures).0

pub returns-then-is_back-clause-follows : goal.returns-then-is_back-clause-follows
returns-then-is_back-clause-follows g c =
    let limits = limits_of c.args.devices.now c.args.bounds in
    let old = g.S.Store.record_of c.args.store.now in
    let mid = g.S.Store.record_of c.turns.store in
    let turned = g.S.Store.record_of c.reported_turn.new.store in
    let new = g.S.Store.record_of c.drop_noted.new.store in
    let before = accesses_shown c.args.reported.now in
    let after = accesses_shown c.reported_turn.new.reported in
    let left = c.drop_noted.new.fewest in
    let goes : Goes_on limits left old new before after = goes_on limits c.in_ok-reported_turn.field-0 c.turns.fewest c.reported_turn.new.fewest left old mid turned new before (accesses_shown c.turns.reported) after c.in_ok-reported_turn.ensures.fewer c.in_ok-drop_noted-in-Going.ensures.fewer c.in-Going.is c.turns.invariant.0 c.turns.invariant.1 c.in_ok-reported_turn.ensures.turns c.in_ok-reported_turn.ensures.moves c.in_ok-drop_noted-in-Going.ensures.drops c.in_ok-drop_noted-in-Going.ensures.alike in
    let late = g.S.Store.record_of c.begin_rounds.new.store in
    (turns_and_rounds limits left (moment_of c.in_ok-first.first) old new late before after c.steps.result c.turns.invariant.2 c.steps.ensures goes (c.is_back.ensures c.if-is_back.true) c.in_ok-begin_rounds-in-Going.ensures).1

pub returns-then-steps-most-clause-turns : goal.returns-then-steps-most-clause-turns
returns-then-steps-most-clause-turns g c =
    let limits = limits_of c.args.devices.now c.args.bounds in
    let old = g.S.Store.record_of c.args.store.now in
    let mid = g.S.Store.record_of c.turns.store in
    let turned = g.S.Store.record_of c.reported_turn.new.store in
    let new = g.S.Store.record_of c.drop_noted.new.store in
    let before = accesses_shown c.args.reported.now in
    let after = accesses_shown c.reported_turn.new.reported in
    let left = c.drop_noted.new.fewest in
    let goes : Goes_on limits left old new before after = goes_on limits c.in_ok-reported_turn.field-0 c.turns.fewest c.reported_turn.new.fewest left old mid turned new before (accesses_shown c.turns.reported) after c.in_ok-reported_turn.ensures.fewer c.in_ok-drop_noted-in-Going.ensures.fewer c.in-Going.is c.turns.invariant.0 c.turns.invariant.1 c.in_ok-reported_turn.ensures.turns c.in_ok-reported_turn.ensures.moves c.in_ok-drop_noted-in-Going.ensures.drops c.in_ok-drop_noted-in-Going.ensures.alike in
    on_turns limits old new goes.on goes.grown

pub returns-then-steps-most-clause-follows : goal.returns-then-steps-most-clause-follows
returns-then-steps-most-clause-follows g c =
    let limits = limits_of c.args.devices.now c.args.bounds in
    let old = g.S.Store.record_of c.args.store.now in
    let mid = g.S.Store.record_of c.turns.store in
    let turned = g.S.Store.record_of c.reported_turn.new.store in
    let new = g.S.Store.record_of c.drop_noted.new.store in
    let before = accesses_shown c.args.reported.now in
    let after = accesses_shown c.reported_turn.new.reported in
    let left = c.drop_noted.new.fewest in
    let goes : Goes_on limits left old new before after = goes_on limits c.in_ok-reported_turn.field-0 c.turns.fewest c.reported_turn.new.fewest left old mid turned new before (accesses_shown c.turns.reported) after c.in_ok-reported_turn.ensures.fewer c.in_ok-drop_noted-in-Going.ensures.fewer c.in-Going.is c.turns.invariant.0 c.turns.invariant.1 c.in_ok-reported_turn.ensures.turns c.in_ok-reported_turn.ensures.moves c.in_ok-drop_noted-in-Going.ensures.drops c.in_ok-drop_noted-in-Going.ensures.alike in
    all_leads_follow limits left old.present new.present before after goes.on.within goes.leads

pub returns-in-Asks-clause-turns : goal.returns-in-Asks-clause-turns
returns-in-Asks-clause-turns g c =
    let limits = limits_of c.args.devices.now c.args.bounds in
    let old = g.S.Store.record_of c.args.store.now in
    let mid = g.S.Store.record_of c.turns.store in
    let new = g.S.Store.record_of c.reported_turn.new.store in
    subst (λ (x : Step). Turns limits x old new) c.in-Asks.is (turns_then limits c.in_ok-reported_turn.field-0 old mid new c.turns.invariant.0 c.in_ok-reported_turn.ensures.turns)

pub returns-in-Asks-clause-follows : goal.returns-in-Asks-clause-follows
returns-in-Asks-clause-follows g c =
    let limits = limits_of c.args.devices.now c.args.bounds in
    let old = g.S.Store.record_of c.args.store.now in
    let mid = g.S.Store.record_of c.turns.store in
    let new = g.S.Store.record_of c.reported_turn.new.store in
    turn_follows limits c.turns.fewest c.reported_turn.new.fewest old mid new c.in_ok-reported_turn.field-0 (steps.Asks c.in-Asks.ask) (accesses_shown c.args.reported.now) (accesses_shown c.turns.reported) (accesses_shown c.reported_turn.new.reported) c.in_ok-reported_turn.ensures.fewer c.in-Asks.is c.turns.invariant.0 c.turns.invariant.1 c.in_ok-reported_turn.ensures.moves

pub returns-in-Ends-clause-turns : goal.returns-in-Ends-clause-turns
returns-in-Ends-clause-turns g c =
    let limits = limits_of c.args.devices.now c.args.bounds in
    let old = g.S.Store.record_of c.args.store.now in
    let mid = g.S.Store.record_of c.turns.store in
    let new = g.S.Store.record_of c.reported_turn.new.store in
    subst (λ (x : Step). Turns limits x old new) c.in-Ends.is (turns_then limits c.in_ok-reported_turn.field-0 old mid new c.turns.invariant.0 c.in_ok-reported_turn.ensures.turns)

pub returns-in-Ends-clause-follows : goal.returns-in-Ends-clause-follows
returns-in-Ends-clause-follows g c =
    let limits = limits_of c.args.devices.now c.args.bounds in
    let old = g.S.Store.record_of c.args.store.now in
    let mid = g.S.Store.record_of c.turns.store in
    let new = g.S.Store.record_of c.reported_turn.new.store in
    turn_follows limits c.turns.fewest c.reported_turn.new.fewest old mid new c.in_ok-reported_turn.field-0 (steps.Ends c.in-Ends.halt) (accesses_shown c.args.reported.now) (accesses_shown c.turns.reported) (accesses_shown c.reported_turn.new.reported) c.in_ok-reported_turn.ensures.fewer c.in-Ends.is c.turns.invariant.0 c.turns.invariant.1 c.in_ok-reported_turn.ensures.moves

pub returns-then-is_back-clause-fewer : goal.returns-then-is_back-clause-fewer
returns-then-is_back-clause-fewer g c = let before = c.turns.invariant.3 in let turn = c.in_ok-reported_turn.ensures.fewer in let drop = c.in_ok-drop_noted-in-Going.ensures.fewer in omega arith

pub returns-then-steps-most-clause-fewer : goal.returns-then-steps-most-clause-fewer
returns-then-steps-most-clause-fewer g c = let before = c.turns.invariant.3 in let turn = c.in_ok-reported_turn.ensures.fewer in let drop = c.in_ok-drop_noted-in-Going.ensures.fewer in omega arith

pub returns-in-Asks-clause-fewer : goal.returns-in-Asks-clause-fewer
returns-in-Asks-clause-fewer g c = let before = c.turns.invariant.3 in let turn = c.in_ok-reported_turn.ensures.fewer in omega arith

pub returns-in-Ends-clause-fewer : goal.returns-in-Ends-clause-fewer
returns-in-Ends-clause-fewer g c = let before = c.turns.invariant.3 in let turn = c.in_ok-reported_turn.ensures.fewer in omega arith

pub returns-in-Asks-clause-frames : goal.returns-in-Asks-clause-frames
returns-in-Asks-clause-frames g c = rw c.in-Asks.is at c.in_ok-reported_turn.ensures.frames
