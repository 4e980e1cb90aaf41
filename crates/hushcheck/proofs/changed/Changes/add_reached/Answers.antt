use Rattle.std.proofs.Common.{◌≡◌, ◌++◌, ◌∙◌, false, map, sym, true}
use Rattle.hushcheck.specs.CallSetsShown.{names_shown}
use Rattle.hushcheck.specs.Names.{run_by_found}
use Rattle.hushcheck.specs.Queue.{has_turn}
use Rattle.hushcheck.proofs.ChangedLemmas.{changes_first, changes_last, changes_less, changes_next}
use Rattle.hushcheck.proofs.changed.Changes.add_reached.Goals as goal

pub turns-init : goal.turns-init
turns-init c = changes_first c.args.rules.now c.args.env.now (map (λ name. name.now) c.args.asked.now ++ run_by_found c.args.script) (names_shown c.args.called.now) c.args.self.now c.in_ok-queue.queue c.in_ok-queue.ensures

pub turns-smaller : goal.turns-smaller
turns-smaller c =
    let some : has_turn c.turns.queue ≡ true = sym c.has_turn.ensures ∙ c.turns-test.true in
    changes_less c.args.rules.now c.args.env.now (map (λ name. name.now) c.args.asked.now ++ run_by_found c.args.script) (names_shown c.args.called.now) c.args.self.now
    c.turns.queue c.add_turn.new.queue c.turns.self some c.turns.invariant c.in_ok-add_turn.ensures.queue

pub turns-preserved : goal.turns-preserved
turns-preserved c =
    let some : has_turn c.turns.queue ≡ true = sym c.has_turn.ensures ∙ c.turns-test.true in
    changes_next c.args.rules.now c.args.env.now (map (λ name. name.now) c.args.asked.now ++ run_by_found c.args.script) (names_shown c.args.called.now) c.args.self.now
    c.turns.queue c.add_turn.new.queue c.turns.self c.add_turn.new.self some c.turns.invariant c.in_ok-add_turn.ensures.queue c.in_ok-add_turn.ensures.changed

pub returns : goal.returns
returns c =
    let none : has_turn c.turns.queue ≡ false = sym c.has_turn.ensures ∙ c.turns-test.false in
    changes_last c.args.rules.now c.args.env.now (map (λ name. name.now) c.args.asked.now ++ run_by_found c.args.script) (names_shown c.args.called.now) c.args.self.now c.turns.queue c.turns.self none c.turns.invariant
