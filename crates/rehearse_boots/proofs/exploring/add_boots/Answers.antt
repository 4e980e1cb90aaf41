use Rattle.std.proofs.Common.{◌≡◌, ◌<◌, ◌∙◌, ap, sym, arith, length, take, Err, Some, option_map}
use Rattle.std.specs.List.{slice_get}
use Rattle.std.proofs.lemmas.List.{length-map, length-take-le}
use Rattle.std.proofs.lemmas.Option.{slice_get_within}
use Rattle.std.proofs.lemmas.Result.{err_from_is_err_and}
use Rattle.rehearse_boots.specs.Boots.{IsReached, boot_of}
use Rattle.rehearse_boots.specs.BootsShown.{kept_shown}
use Rattle.rehearse_boots.specs.Exploring.{asked_in, graph_shown}
use Rattle.rehearse_boots.specs.Ways.{ways_in}
use Rattle.text.specs.TextsShown.{bytes_of_words}
use Rattle.rehearse_boots.proofs.BootLemmas.{passed_on}
use Rattle.rehearse_boots.proofs.FoundLemmas.{at_place, past_places, told_on}
use Rattle.rehearse_boots.proofs.ToldLemmas.{told_all, told_apart_all, untold_boot}
use Rattle.rehearse_boots.proofs.exploring.add_boots.Goals as goal

pub returns-in_err-add_boot-in-Some-clause-err : goal.returns-in_err-add_boot-in-Some-clause-err
returns-in_err-add_boot-in-Some-clause-err g c =
    let asked = asked_in c.args.telling.now in
    let ask = c.args.telling.now.ask.now in
    let start_of = g.B.Board.start_of c.args.board.now in
    let kept = bytes_of_words c.deref.result.now in
    let boots = c.loop-place.found.boots in
    let told = c.loop-place.invariant.0 in
    let there : slice_get boots c.loop-place.place ≡ Some kept = sym c.in_ok-kept.ensures ∙ ap (option_map kept_shown) c.in-Some.is ∙ ap (λ words. Some (bytes_of_words words)) (sym c.deref.ensures.value) in
    let error = err_from_is_err_and c.from_residual-in_err-add_boot-in-Some.result c.from_residual-in_err-add_boot-in-Some.ensures.1 in
    passed_on _ c.from_residual-in_err-add_boot-in-Some.result c.in_err-add_boot-in-Some.field-0.0 (error.1 ∙ ap Err error.2)
    (untold_boot start_of asked kept ask.states ask.work ask.memory ask.boots boots c.add_boot.new.found.boots (at_place (IsReached start_of asked) boots c.loop-place.place kept there told.reached) told.reached
    (told_apart_all start_of asked c.loop-place.place boots (graph_shown c.loop-place.graph.items) told) c.in_err-add_boot-in-Some.field-0.0 c.in_err-add_boot-in-Some.ensures.err)

pub returns-in-None-clause-told : goal.returns-in-None-clause-told
returns-in-None-clause-told g c =
    told_all (g.B.Board.start_of c.args.board.now) (asked_in c.args.telling.now) c.loop-place.place c.loop-place.found.boots (graph_shown c.loop-place.graph.items)
    (past_places c.loop-place.found.boots c.loop-place.place (sym c.in_ok-kept.ensures ∙ ap (option_map kept_shown) c.in-None.is)) c.loop-place.invariant.0

pub loop-place-preserved : goal.loop-place-preserved
loop-place-preserved g c =
    let asked = asked_in c.args.telling.now in
    let start_of = g.B.Board.start_of c.args.board.now in
    let kept = bytes_of_words c.deref.result.now in
    let boots = c.loop-place.found.boots in
    let place = c.loop-place.place in
    let inv = c.loop-place.invariant in
    let there : slice_get boots place ≡ Some kept = sym c.in_ok-kept.ensures ∙ ap (option_map kept_shown) c.in-Some.is ∙ ap (λ words. Some (bytes_of_words words)) (sym c.deref.ensures.value) in
    let within : place < length boots = slice_get_within boots place kept there in
    let long : length (graph_shown c.loop-place.graph.items) ≡ place =
    ap length inv.0.ways ∙ length-map (take place boots) (λ k. ways_in asked boots (boot_of start_of asked k)) ∙ length-take-le place boots (omega (arith, within)) in (
      told_on start_of asked place kept boots c.add_boot.new.found.boots (graph_shown c.loop-place.graph.items) (graph_shown c.add_boot.new.graph.items) inv.0 there c.in_ok-add_boot-in-Some.ensures.ok,
      c.in_ok-add_boot-in-Some.ensures.by long within inv.1,
      c.in_ok-add_boot-in-Some.ensures.few inv.2,
    )

pub returns-clause-told : goal.returns-clause-told
returns-clause-told g c =
    let few = c.loop-place.invariant.2 in
    let over = c.loop-place-test.false in
    told_all (g.B.Board.start_of c.args.board.now) (asked_in c.args.telling.now) c.loop-place.place c.loop-place.found.boots (graph_shown c.loop-place.graph.items) (omega (arith, few, over)) c.loop-place.invariant.0
