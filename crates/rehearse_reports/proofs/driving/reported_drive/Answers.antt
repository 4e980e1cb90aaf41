use Rattle.std.proofs.Common.{sym, ◌∙◌, subst, arith}
use Rattle.rehearse_machine.specs.declared.ask.Step.{Step}
use Rattle.rehearse_machine.specs.declared.ask.Step.TheVariants as steps
use Rattle.rehearse_machine.specs.MovesShown.{limits_of}
use Rattle.rehearse_machine.specs.Turning.{Drives}
use Rattle.rehearse_machine.proofs.TurnLemmas.{driven, came_on, further_steps, same_steps, on_first, on_lighter}
use Rattle.rehearse_frames.specs.Above.{without_lowest}
use Rattle.rehearse_reports.specs.ReportsShown.{accesses_shown}
use Rattle.rehearse_reports.proofs.FollowingLemmas.{follows_first, all_follow_then, all_follow_as, all_follow_lighter}
use Rattle.rehearse_reports.proofs.driving.reported_drive.Goals as goal

pub turns-init : goal.turns-init
turns-init g c =
    let limits = limits_of c.args.devices.now c.args.bounds in
    let old = g.S.Store.record_of c.args.store.now in
    (on_first limits old c.requires.sound c.requires.steps, λ below within. follows_first limits (without_lowest below old.present) (accesses_shown c.args.reported.now), omega arith)

pub turns-smaller : goal.turns-smaller
turns-smaller g c =
    let limits = limits_of c.args.devices.now c.args.bounds in
    let old = g.S.Store.record_of c.args.store.now in
    let mid = g.S.Store.record_of c.turns.store in
    let after = g.S.Store.record_of c.next_turns.new.store in
    let k = further_steps limits c.in_ok-next_turns.field-0 old mid after c.turns.invariant.0 c.in_ok-next_turns.ensures.turns c.in-Going.is in
    let same = same_steps after (g.S.Store.record_of c.drop_noted.new.store) c.in_ok-drop_noted-in-Going.ensures.drops in
    omega arith

pub turns-preserved : goal.turns-preserved
turns-preserved g c =
    let limits = limits_of c.args.devices.now c.args.bounds in
    let old = g.S.Store.record_of c.args.store.now in
    let mid = g.S.Store.record_of c.turns.store in
    let after = g.S.Store.record_of c.next_turns.new.store in
    let new = g.S.Store.record_of c.drop_noted.new.store in (
      on_lighter limits old after new (came_on limits c.in_ok-next_turns.field-0 old mid after c.turns.invariant.0 c.in_ok-next_turns.ensures.turns c.in-Going.is) c.in_ok-drop_noted-in-Going.ensures.drops,
      all_follow_lighter limits c.next_turns.new.fewest c.drop_noted.new.fewest old.present after new (accesses_shown c.args.reported.now) (accesses_shown c.next_turns.new.reported) c.in_ok-drop_noted-in-Going.ensures.fewer c.in_ok-drop_noted-in-Going.ensures.drops c.in_ok-drop_noted-in-Going.ensures.alike
          (all_follow_as limits c.next_turns.new.fewest old.present after.present c.in_ok-next_turns.field-0 steps.Going (accesses_shown c.args.reported.now) (accesses_shown c.next_turns.new.reported) c.in-Going.is
          (all_follow_then limits c.turns.fewest c.next_turns.new.fewest old.present mid.present after.present c.in_ok-next_turns.field-0 (accesses_shown c.args.reported.now) (accesses_shown c.turns.reported) (accesses_shown c.next_turns.new.reported) c.in_ok-next_turns.ensures.fewer c.turns.invariant.1 c.in_ok-next_turns.ensures.follows)),
      let before = c.turns.invariant.2 in let turn = c.in_ok-next_turns.ensures.fewer in let drop = c.in_ok-drop_noted-in-Going.ensures.fewer in omega arith,
    )

pub returns-in-Asks-clause-drives : goal.returns-in-Asks-clause-drives
returns-in-Asks-clause-drives g c =
    let limits = limits_of c.args.devices.now c.args.bounds in
    let old = g.S.Store.record_of c.args.store.now in
    let mid = g.S.Store.record_of c.turns.store in
    let new = g.S.Store.record_of c.next_turns.new.store in
    subst (λ (x : Step). Drives limits x old new) c.in-Asks.is (driven limits c.in_ok-next_turns.field-0 old mid new c.turns.invariant.0 c.in_ok-next_turns.ensures.turns (λ e. let f = sym c.in-Asks.is ∙ e in cc))

pub returns-in-Asks-clause-follows : goal.returns-in-Asks-clause-follows
returns-in-Asks-clause-follows g c =
    let limits = limits_of c.args.devices.now c.args.bounds in
    let old = g.S.Store.record_of c.args.store.now in
    let mid = g.S.Store.record_of c.turns.store in
    let new = g.S.Store.record_of c.next_turns.new.store in
    all_follow_as limits c.next_turns.new.fewest old.present new.present c.in_ok-next_turns.field-0 (steps.Asks c.in-Asks.ask) _ _ c.in-Asks.is
    (all_follow_then limits c.turns.fewest c.next_turns.new.fewest old.present mid.present new.present c.in_ok-next_turns.field-0 (accesses_shown c.args.reported.now) (accesses_shown c.turns.reported) (accesses_shown c.next_turns.new.reported) c.in_ok-next_turns.ensures.fewer c.turns.invariant.1 c.in_ok-next_turns.ensures.follows)

pub returns-in-Ends-clause-drives : goal.returns-in-Ends-clause-drives
returns-in-Ends-clause-drives g c =
    let limits = limits_of c.args.devices.now c.args.bounds in
    let old = g.S.Store.record_of c.args.store.now in
    let mid = g.S.Store.record_of c.turns.store in
    let new = g.S.Store.record_of c.next_turns.new.store in
    subst (λ (x : Step). Drives limits x old new) c.in-Ends.is (driven limits c.in_ok-next_turns.field-0 old mid new c.turns.invariant.0 c.in_ok-next_turns.ensures.turns (λ e. let f = sym c.in-Ends.is ∙ e in cc))

pub returns-in-Ends-clause-follows : goal.returns-in-Ends-clause-follows
returns-in-Ends-clause-follows g c =
    let limits = limits_of c.args.devices.now c.args.bounds in
    let old = g.S.Store.record_of c.args.store.now in
    let mid = g.S.Store.record_of c.turns.store in
    let new = g.S.Store.record_of c.next_turns.new.store in
    all_follow_as limits c.next_turns.new.fewest old.present new.present c.in_ok-next_turns.field-0 (steps.Ends c.in-Ends.halt) _ _ c.in-Ends.is
    (all_follow_then limits c.turns.fewest c.next_turns.new.fewest old.present mid.present new.present c.in_ok-next_turns.field-0 (accesses_shown c.args.reported.now) (accesses_shown c.turns.reported) (accesses_shown c.next_turns.new.reported) c.in_ok-next_turns.ensures.fewer c.turns.invariant.1 c.in_ok-next_turns.ensures.follows)

pub returns-in-Asks-clause-fewer : goal.returns-in-Asks-clause-fewer
returns-in-Asks-clause-fewer g c = let before = c.turns.invariant.2 in let turn = c.in_ok-next_turns.ensures.fewer in omega arith

pub returns-in-Ends-clause-fewer : goal.returns-in-Ends-clause-fewer
returns-in-Ends-clause-fewer g c = let before = c.turns.invariant.2 in let turn = c.in_ok-next_turns.ensures.fewer in omega arith

pub returns-in-Asks-clause-frames : goal.returns-in-Asks-clause-frames
returns-in-Asks-clause-frames g c = rw c.in-Asks.is at c.in_ok-next_turns.ensures.frames
