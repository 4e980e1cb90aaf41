use Rattle.std.proofs.Common.{subst, sym, ◌∙◌, arith}
use Rattle.rehearse_machine.specs.declared.ask.Step.{Step}
use Rattle.rehearse_machine.specs.declared.ask.Step.TheVariants as steps
use Rattle.rehearse_machine.specs.MovesShown.{limits_of}
use Rattle.rehearse_machine.specs.Turning.{Turns}
use Rattle.rehearse_machine.proofs.TurnLemmas.{turned, waited, fewer, waits_first}
use Rattle.rehearse_frames.specs.Above.{without_lowest}
use Rattle.rehearse_reports.specs.ReportsShown.{accesses_shown}
use Rattle.rehearse_reports.proofs.LoopingLemmas.{moves_first, all_moves_as, all_moves_more}
use Rattle.rehearse_reports.proofs.driving.reported_turn.Goals as goal

pub moves-init : goal.moves-init
moves-init g c =
    let limits = limits_of c.args.devices.now c.args.bounds in
    let old = g.S.Store.record_of c.args.store.now in
    (waits_first limits old c.requires.sound, λ below within. moves_first limits (without_lowest below old.present) (accesses_shown c.args.reported.now), omega arith)

pub returns-then-steps-before-clause-turns : goal.returns-then-steps-before-clause-turns
returns-then-steps-before-clause-turns g c =
    let limits = limits_of c.args.devices.now c.args.bounds in
    let old = g.S.Store.record_of c.args.store.now in
    let mid = g.S.Store.record_of c.moves.store in
    let new = g.S.Store.record_of c.reported_step.new.store in
    subst (λ (x : Step). Turns limits x old new) c.in-Going.is
    (turned limits c.in_ok-reported_step.field-0 old mid new c.moves.invariant.0 c.in_ok-reported_step.ensures.moves (λ e k. c.if-steps-before.true (c.steps.ensures ∙ k ∙ sym c.steps-before.ensures)))

pub returns-then-steps-before-clause-moves : goal.returns-then-steps-before-clause-moves
returns-then-steps-before-clause-moves g c =
    let limits = limits_of c.args.devices.now c.args.bounds in
    let old = g.S.Store.record_of c.args.store.now in
    let mid = g.S.Store.record_of c.moves.store in
    let new = g.S.Store.record_of c.reported_step.new.store in
    all_moves_as limits c.reported_step.new.fewest old.present new.present c.in_ok-reported_step.field-0 steps.Going _ _ c.in-Going.is
    (all_moves_more limits c.moves.fewest c.reported_step.new.fewest old.present c.in_ok-reported_step.field-0 mid.present new.present (accesses_shown c.args.reported.now) (accesses_shown c.moves.reported) (accesses_shown c.reported_step.new.reported) c.in_ok-reported_step.ensures.fewer c.in_ok-reported_step.ensures.all c.moves.invariant.1 c.in_ok-reported_step.ensures.above c.in_ok-reported_step.ensures.reported)

pub moves-smaller : goal.moves-smaller
moves-smaller g c =
    let limits = limits_of c.args.devices.now c.args.bounds in
    let old = g.S.Store.record_of c.args.store.now in
    let mid = g.S.Store.record_of c.moves.store in
    let new = g.S.Store.record_of c.reported_step.new.store in
    fewer limits c.in_ok-reported_step.field-0 old mid new c.moves.invariant.0 c.in_ok-reported_step.ensures.moves c.in-Going.is (sym c.steps.ensures ∙ c.if-steps-before.false ∙ c.steps-before.ensures)

pub moves-preserved : goal.moves-preserved
moves-preserved g c =
    let limits = limits_of c.args.devices.now c.args.bounds in
    let old = g.S.Store.record_of c.args.store.now in
    let mid = g.S.Store.record_of c.moves.store in
    let new = g.S.Store.record_of c.reported_step.new.store in (
      waited limits c.in_ok-reported_step.field-0 old mid new c.moves.invariant.0 c.in_ok-reported_step.ensures.moves c.in-Going.is (sym c.steps.ensures ∙ c.if-steps-before.false ∙ c.steps-before.ensures),
      all_moves_as limits c.reported_step.new.fewest old.present new.present c.in_ok-reported_step.field-0 steps.Going _ _ c.in-Going.is
          (all_moves_more limits c.moves.fewest c.reported_step.new.fewest old.present c.in_ok-reported_step.field-0 mid.present new.present (accesses_shown c.args.reported.now) (accesses_shown c.moves.reported) (accesses_shown c.reported_step.new.reported) c.in_ok-reported_step.ensures.fewer c.in_ok-reported_step.ensures.all c.moves.invariant.1 c.in_ok-reported_step.ensures.above c.in_ok-reported_step.ensures.reported),
      let before = c.moves.invariant.2 in let now = c.in_ok-reported_step.ensures.fewer in omega arith,
    )

pub returns-in-Asks-clause-turns : goal.returns-in-Asks-clause-turns
returns-in-Asks-clause-turns g c =
    let limits = limits_of c.args.devices.now c.args.bounds in
    let old = g.S.Store.record_of c.args.store.now in
    let mid = g.S.Store.record_of c.moves.store in
    let new = g.S.Store.record_of c.reported_step.new.store in
    subst (λ (x : Step). Turns limits x old new) c.in-Asks.is
    (turned limits c.in_ok-reported_step.field-0 old mid new c.moves.invariant.0 c.in_ok-reported_step.ensures.moves (λ e k. let f = sym c.in-Asks.is ∙ e in cc))

pub returns-in-Asks-clause-moves : goal.returns-in-Asks-clause-moves
returns-in-Asks-clause-moves g c =
    let limits = limits_of c.args.devices.now c.args.bounds in
    let old = g.S.Store.record_of c.args.store.now in
    let mid = g.S.Store.record_of c.moves.store in
    let new = g.S.Store.record_of c.reported_step.new.store in
    all_moves_as limits c.reported_step.new.fewest old.present new.present c.in_ok-reported_step.field-0 (steps.Asks c.in-Asks.ask) _ _ c.in-Asks.is
    (all_moves_more limits c.moves.fewest c.reported_step.new.fewest old.present c.in_ok-reported_step.field-0 mid.present new.present (accesses_shown c.args.reported.now) (accesses_shown c.moves.reported) (accesses_shown c.reported_step.new.reported) c.in_ok-reported_step.ensures.fewer c.in_ok-reported_step.ensures.all c.moves.invariant.1 c.in_ok-reported_step.ensures.above c.in_ok-reported_step.ensures.reported)

pub returns-in-Ends-clause-turns : goal.returns-in-Ends-clause-turns
returns-in-Ends-clause-turns g c =
    let limits = limits_of c.args.devices.now c.args.bounds in
    let old = g.S.Store.record_of c.args.store.now in
    let mid = g.S.Store.record_of c.moves.store in
    let new = g.S.Store.record_of c.reported_step.new.store in
    subst (λ (x : Step). Turns limits x old new) c.in-Ends.is
    (turned limits c.in_ok-reported_step.field-0 old mid new c.moves.invariant.0 c.in_ok-reported_step.ensures.moves (λ e k. let f = sym c.in-Ends.is ∙ e in cc))

pub returns-in-Ends-clause-moves : goal.returns-in-Ends-clause-moves
returns-in-Ends-clause-moves g c =
    let limits = limits_of c.args.devices.now c.args.bounds in
    let old = g.S.Store.record_of c.args.store.now in
    let mid = g.S.Store.record_of c.moves.store in
    let new = g.S.Store.record_of c.reported_step.new.store in
    all_moves_as limits c.reported_step.new.fewest old.present new.present c.in_ok-reported_step.field-0 (steps.Ends c.in-Ends.halt) _ _ c.in-Ends.is
    (all_moves_more limits c.moves.fewest c.reported_step.new.fewest old.present c.in_ok-reported_step.field-0 mid.present new.present (accesses_shown c.args.reported.now) (accesses_shown c.moves.reported) (accesses_shown c.reported_step.new.reported) c.in_ok-reported_step.ensures.fewer c.in_ok-reported_step.ensures.all c.moves.invariant.1 c.in_ok-reported_step.ensures.above c.in_ok-reported_step.ensures.reported)

pub returns-then-steps-before-clause-fewer : goal.returns-then-steps-before-clause-fewer
returns-then-steps-before-clause-fewer g c = let before = c.moves.invariant.2 in let now = c.in_ok-reported_step.ensures.fewer in omega arith

pub returns-in-Asks-clause-fewer : goal.returns-in-Asks-clause-fewer
returns-in-Asks-clause-fewer g c = let before = c.moves.invariant.2 in let now = c.in_ok-reported_step.ensures.fewer in omega arith

pub returns-in-Ends-clause-fewer : goal.returns-in-Ends-clause-fewer
returns-in-Ends-clause-fewer g c = let before = c.moves.invariant.2 in let now = c.in_ok-reported_step.ensures.fewer in omega arith

pub returns-in-Asks-clause-frames : goal.returns-in-Asks-clause-frames
returns-in-Asks-clause-frames g c = rw c.in-Asks.is at c.in_ok-reported_step.ensures.frames
