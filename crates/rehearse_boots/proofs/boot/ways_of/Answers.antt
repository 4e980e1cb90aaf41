use Rattle.std.proofs.Common.{◌≡◌, ◌∷◌, ◌++◌, ◌<◌, [], ◌+◌, suc, ◌∙◌, ap, sym, subst, drop, length, map, take, Err}
use Rattle.std.proofs.lemmas.List.{map_more}
use Rattle.std.proofs.lemmas.Result.{err_from_is_err_and}
use Rattle.text.specs.TextsShown.{bytes_of_words}
use Rattle.rehearse_boots.specs.Exploring.{BreaksAt, asked_in, next_of_all}
use Rattle.rehearse_boots.specs.Ways.{way_shown}
use Rattle.rehearse_boots.specs.declared.boots_error.BootsError.{BootsError}
use Rattle.rehearse_boots.specs.declared.boots_error.BootsError.TheVariants.{Boots as TooMany}
use Rattle.rehearse_states.specs.Drawing.{failing_on, nodes_shown}
use Rattle.rehearse_states.specs.Endings.{Row}
use Rattle.rehearse_states.specs.RowsShown.{row_shown, rows_shown}
use Rattle.rehearse_boots.proofs.BootLemmas.{breaks_on, passed_on, rows_around, ways_on}
use Rattle.rehearse_boots.proofs.WayLemmas.{longer}
use Rattle.rehearse_boots.proofs.boot.ways_of.Goals as goal

pub loop-row-preserved : goal.loop-row-preserved
loop-row-preserved c =
    let asked = asked_in c.args.telling.now in
    let saved = bytes_of_words c.args.ending.now.saved.now in
    let fails = failing_on c.args.ending.now.devices.now (nodes_shown c.args.ending.now.nodes.now) in
    let items = c.deref-row-items.result.now in
    let i = c.loop-row.row-index in
    let row = c.row-item.result in
    let before = map row_shown (take i items) in
    let start = c.args.found.now.boots in
    let inv = c.loop-row.invariant in
    let more = map_more row_shown items i row c.loop-row-test.true ∙ ap (λ (r : Row). before ++ r ∷ []) (sym (ap row_shown c.row-item.is)) in
    let grown : c.args.ending.now.place < length start → c.args.ending.now.place < length c.loop-row.found.boots =
    λ within. subst (λ b. c.args.ending.now.place < length b) (sym inv.0.boots) (longer start (next_of_all asked saved before) c.args.ending.now.place within) in (
      ways_on asked saved fails start [] before (row_shown row ∷ []) (map row_shown (take (i + 1) items)) c.loop-row.found.boots c.add_way.new.found.boots (map way_shown c.loop-row.ways.items) (map way_shown c.add_way.new.ways.items) more inv.0 c.in_ok-add_way.ensures.ok,
      (λ graph long within are. c.in_ok-add_way.ensures.by graph long (grown within) (inv.1 graph long within are)),
      (λ few. c.in_ok-add_way.ensures.few (inv.2 few)),
    )

pub returns-in_err-add_way-clause-many : goal.returns-in_err-add_way-clause-many
returns-in_err-add_way-clause-many c =
    let asked = asked_in c.args.telling.now in
    let saved = bytes_of_words c.args.ending.now.saved.now in
    let fails = failing_on c.args.ending.now.devices.now (nodes_shown c.args.ending.now.nodes.now) in
    let items = c.deref-row-items.result.now in
    let i = c.loop-row.row-index in
    let row = c.row-item.result in
    let error = err_from_is_err_and c.from_residual.result c.from_residual.ensures.1 in
    passed_on (λ (e : BootsError). e ≡ TooMany → BreaksAt (next_of_all asked saved (rows_shown c.args.rows.now)) c.args.telling.now.ask.now.boots c.args.found.now.boots c.add_way.new.found.boots)
    c.from_residual.result c.in_err-add_way.field-0.0 (error.1 ∙ ap Err error.2)
    (λ is. breaks_on asked saved fails c.args.found.now.boots [] c.args.telling.now.ask.now.boots (map row_shown (take i items)) (row_shown row ∷ []) (map row_shown (drop (suc i) items)) (rows_shown c.args.rows.now) c.loop-row.found.boots c.add_way.new.found.boots
    (sym (ap (map row_shown) c.deref-row-items.ensures.value) ∙ rows_around items i row c.loop-row-test.true c.row-item.is) c.loop-row.invariant.0.boots (c.in_err-add_way.ensures.many is))
