use Rattle.std.proofs.Common.{ap, sym, ◌∙◌, ℕ, List, not, Bool, Option, Some, None, false}
use Rattle.commands.specs.TextsShown.{texts}
use Rattle.indexmap.specs.IndexMap.{insert_entry}
use Rattle.board_start.specs.Start.{Values, has_value, with_value}
use Rattle.board_start.specs.StartShown.{values_shown, givens_shown}
use Rattle.device_list.proofs.MapLemmas.{looked_up, changed-present, changed-inserted, same_key}
use Rattle.board_start.proofs.values.add_value.Goals as goal

-- whether a value is a further one, by what a table has of the name
abbrev further_than : (value : List ℕ) → Option Values → Bool
further_than value found = elim found [ None ↦ false | Some values ↦ not (has_value values value) ]

pub returns-in-Some-clause-values : goal.returns-in-Some-clause-values
returns-in-Some-clause-values c =
    ap givens_shown (c.get_mut.follows.holds c.add.new.self).0
    ∙ changed-present values_shown (with_value c.args.value.items) c.args.givens.now.entries c.args.name.now c.in-Some.values.now c.add.new.self
    (sym c.in-Some.ensures.value) c.in_ok-is_further.ensures.values

pub returns-in-Some-clause-further : goal.returns-in-Some-clause-further
returns-in-Some-clause-further c =
    let found = looked_up values_shown c.args.givens.now.entries c.args.name.now (Some c.in-Some.values.now) (sym c.in-Some.ensures.value) in
    c.in_ok-is_further.ensures.further ∙ sym (ap (further_than c.args.value.items) found)

pub returns-clause-values : goal.returns-clause-values
returns-clause-values c =
    changed-inserted values_shown (with_value c.args.value.items) c.args.givens.now.entries _ c.in_ok-name.name c.args.name.now (record { first = c.args.value; others = c.new-others.result })
    c.in_default.ensures.value c.in_ok-name.ensures.items
    (c.in_ok-insert.ensures.entries ∙ ap (λ m. insert_entry same_key m.entries c.in_ok-name.name (record { first = c.args.value; others = c.new-others.result })) c.get_mut.follows.holds-at-none)
    (ap (λ items. let v : Values = record { first = c.args.value.items; others = texts items } in v) c.new-others.ensures.items)

pub returns-clause-further : goal.returns-clause-further
returns-clause-further c =
    let gone = looked_up values_shown c.args.givens.now.entries c.args.name.now None (sym c.in_default.ensures.value) in
    sym (ap (further_than c.args.value.items) gone)
