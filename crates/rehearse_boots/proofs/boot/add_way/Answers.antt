use Rattle.std.proofs.Common.{rules, ◌≡◌, ◌∷◌, ◌++◌, [], ◌∙◌, ap, length, map, subst, sym, true, Err}
use Rattle.std.proofs.lemmas.List.{length-map}
use Rattle.std.proofs.lemmas.Result.{err_from_is_err_and}
use Rattle.text.specs.TextsShown.{bytes_of_words}
use Rattle.rehearse_boots.specs.Boots.{is_followed}
use Rattle.rehearse_boots.specs.Exploring.{BreaksAt, StaysFound, asked_in, next_of_all}
use Rattle.rehearse_boots.specs.NextShown.{next_shown}
use Rattle.rehearse_boots.specs.Ways.{way_shown}
use Rattle.rehearse_boots.specs.declared.boots_error.BootsError.{BootsError}
use Rattle.rehearse_boots.specs.declared.boots_error.BootsError.TheVariants.{Boots as TooMany}
use Rattle.rehearse_boots.specs.declared.found.FoundBy.{FoundBy}
use Rattle.rehearse_states.specs.RowsShown.{row_shown}
use Rattle.rehearse_boots.proofs.BootLemmas.{breaks_one, map_append, passed_on}
use Rattle.rehearse_boots.proofs.WayLemmas.{stays_found}
use Rattle.rehearse_boots.proofs.boot.add_way.Goals as goal

pub returns-in_err-numbers-clause-many : goal.returns-in_err-numbers-clause-many
returns-in_err-numbers-clause-many c =
    let asked = asked_in c.args.telling.now in
    let saved = bytes_of_words c.args.ending.now.saved.now in
    let row = row_shown c.args.row.now in
    let followed : is_followed asked row ≡ true = search rules in
    let error = err_from_is_err_and c.from_residual-in_err-numbers.result c.from_residual-in_err-numbers.ensures.1 in
    passed_on (λ (e : BootsError). e ≡ TooMany → BreaksAt (next_of_all asked saved (row ∷ [])) c.args.telling.now.ask.now.boots c.args.found.now.boots c.add_next.new.found.boots)
    c.from_residual-in_err-numbers.result c.in_err-numbers.field-0.0 (error.1 ∙ ap Err error.2)
    (λ is. breaks_one asked saved row (next_shown c.in_ok-next.next) c.args.telling.now.ask.now.boots c.args.found.now.boots c.add_next.new.found.boots followed c.in_ok-next.ensures.ok (c.in_err-numbers.ensures.many is))

pub returns-clause-by : goal.returns-clause-by
returns-clause-by c =
    let old = c.args.found.now in
    let new = c.add_next.new.found in
    let items = c.args.ways.now.items in
    let ways = map way_shown items in
    let w = way_shown c.in_ok-way.way in
    let adds = c.in_ok-numbers.ensures.ok in
    let is = c.in_ok-way.ensures in
    let by : FoundBy = record { place = c.args.ending.now.place; way = c.len.result } in
    let pushed : map way_shown c.push.new.self.items ≡ ways ++ w ∷ [] = ap (map way_shown) c.in_ok-push.ensures.items ∙ map_append way_shown items (c.in_ok-way.way ∷ []) in
    let count : c.len.result ≡ length items = search rules in
    let last : c.len.result ≡ length ways = count ∙ sym (length-map items way_shown) in
    subst (λ ws. StaysFound by.place ways ws old.boots new.boots old.by.items new.by.items) (sym pushed)
    (stays_found by (next_shown c.in_ok-next.next) old.boots new.boots old.by.items new.by.items ways w last (is.next_is ∙ adds.next_is) (is.changed_is ∙ adds.changed_is) adds.boots adds.findings)
