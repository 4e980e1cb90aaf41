use Rattle.std.proofs.Common.{◌≡◌, ◌&&◌, ◌++◌, ◌∙◌, [], ap, map, refl, sym, true, false}
use Rattle.std.proofs.lemmas.Result.{err_from_is_err_and}
use Rattle.output.proofs.SinkLemmas.{Wrote-append, Wrote-none}
use Rattle.hushcheck.specs.CallSetsShown.{names_shown}
use Rattle.hushcheck.specs.Names.{run_by_found}
use Rattle.hushcheck.specs.Queue.{has_turn, next_turn}
use Rattle.hushcheck.specs.Report.{lines_of}
use Rattle.hushcheck.specs.UsedShown.{all_used}
use Rattle.hushcheck.proofs.CheckLemmas.{begins_first, begins_next, room_less, standing_first, standing_last, standing_next}
use Rattle.hushcheck.proofs.TellingLemmas.{front-nothing, stops-after}
use Rattle.hushcheck.proofs.checking.check_turns.Goals as goal

pub returns-in_err-queue : goal.returns-in_err-queue
returns-in_err-queue g c =
    let p = err_from_is_err_and c.from_residual.result c.from_residual.ensures.1 in
    rw (p.1, p.2) ([], begins_first c.args.rules.now c.args.env.now (map (λ name. name.now) c.args.asked.now ++ run_by_found c.args.script) (names_shown c.args.called.now), front-nothing (g.O.Out.sink c.args.out.now) [])

pub turns-init : goal.turns-init
turns-init g c = (
  [],
  standing_first c.args.rules.now c.args.env.now (all_used c.args.used.now.items) (map (λ name. name.now) c.args.asked.now ++ run_by_found c.args.script) (names_shown c.args.called.now) c.args.so_far c.in_ok-queue.queue c.in_ok-queue.ensures,
  Wrote-none (g.O.Out.sink c.args.out.now),
)

pub turns-smaller : goal.turns-smaller
turns-smaller g c =
    let some : has_turn c.turns.queue ≡ true = sym c.has_turn.ensures ∙ c.turns-test.true in
    room_less c.args.rules.now c.args.env.now (all_used c.args.used.now.items) (map (λ name. name.now) c.args.asked.now ++ run_by_found c.args.script) (names_shown c.args.called.now) c.args.so_far
    c.turns.queue c.take_turn.new.queue c.turns.invariant.0 c.turns.sound (all_used c.turns.used.items) some c.turns.invariant.1 c.in_ok-fine.ensures.queue

pub turns-preserved : goal.turns-preserved
turns-preserved g c =
    let some : has_turn c.turns.queue ≡ true = sym c.has_turn.ensures ∙ c.turns-test.true in
    let rules = c.args.rules.now in
    let told = c.turns.invariant.0 in
    let lines = lines_of rules c.args.env.now (next_turn c.turns.queue) in (
      told ++ lines,
      standing_next rules c.args.env.now (all_used c.args.used.now.items) (map (λ name. name.now) c.args.asked.now ++ run_by_found c.args.script) (names_shown c.args.called.now) c.args.so_far
          c.turns.queue c.take_turn.new.queue told (told ++ lines) c.turns.sound c.both-sound.result (all_used c.turns.used.items) (all_used c.take_turn.new.used.items)
          some c.turns.invariant.1 c.in_ok-fine.ensures.queue refl (c.both-sound.ensures ∙ ap (λ b. c.turns.sound && b) c.in_ok-fine.ensures.fine) c.in_ok-fine.ensures.used,
      Wrote-append c.turns.invariant.2 c.in_ok-fine.ensures.lines,
    )

pub returns-in_err-fine : goal.returns-in_err-fine
returns-in_err-fine g c =
    let some : has_turn c.turns.queue ≡ true = sym c.has_turn.ensures ∙ c.turns-test.true in
    let rules = c.args.rules.now in
    let told = c.turns.invariant.0 in
    let lines = lines_of rules c.args.env.now (next_turn c.turns.queue) in
    let p = err_from_is_err_and c.from_residual-in_err-fine.result c.from_residual-in_err-fine.ensures.1 in
    rw (p.1, p.2) (
      told ++ lines,
      begins_next rules c.args.env.now (all_used c.args.used.now.items) (map (λ name. name.now) c.args.asked.now ++ run_by_found c.args.script) (names_shown c.args.called.now) c.args.so_far c.turns.queue told c.turns.sound (all_used c.turns.used.items) some c.turns.invariant.1,
      stops-after (g.O.Out.sink c.args.out.now) (g.O.Out.sink c.turns.out) (g.O.Out.sink c.take_turn.new.out) told lines c.in_err-fine.field-0.0 c.turns.invariant.2 c.in_err-fine.ensures.lines,
    )

pub returns : goal.returns
returns g c =
    let none : has_turn c.turns.queue ≡ false = sym c.has_turn.ensures ∙ c.turns-test.false in (
      c.turns.invariant.0,
      standing_last c.args.rules.now c.args.env.now (all_used c.args.used.now.items) (map (λ name. name.now) c.args.asked.now ++ run_by_found c.args.script) (names_shown c.args.called.now) c.args.so_far c.turns.queue c.turns.invariant.0 c.turns.sound (all_used c.turns.used.items) none c.turns.invariant.1,
      c.turns.invariant.2,
    )
