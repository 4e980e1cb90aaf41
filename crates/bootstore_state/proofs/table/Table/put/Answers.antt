use Rattle.std.proofs.Common.{Some, ◌∙◌, ap, cond}
use Rattle.std.specs.Ordering.{nat_cmp, is_eq}
use Rattle.std.specs.Cmp.Lexicographic.{slice_cmp}
use Rattle.std.specs.BTreeMap.{insert_entry}
use Rattle.bootstore_state.specs.declared.table.Place.{Place}
use Rattle.text.specs.TextsShown.{option_items}
use Rattle.bootstore_state.specs.Record.{assigned}
use Rattle.bootstore_state.specs.Table.{variables_of, last_kept}
use Rattle.bootstore_state.proofs.TableLemmas.{written, written_slots, written_kept, added, added_slots, added_kept, key_cmp}
use Rattle.bootstore_state.proofs.table.Table.put.Goals as goal

pub returns-in-Some-clause-ok : goal.returns-in-Some-clause-ok
returns-in-Some-clause-ok c =
    let w = c.replace.new.dest in
    written c.args.self.now.slots.entries _ c.args.name.now c.in-Some.slot.now w c.in-Some.ensures.value (c.get_mut.follows.holds w).0
    ∙ ap (assigned (variables_of c.args.self.now) c.args.name.now) (ap (λ (p : Place). option_items p.value) c.replace.ensures.after ∙ c.in_ok-value.ensures)

pub returns-in-Some-clause-before : goal.returns-in-Some-clause-before
returns-in-Some-clause-before c = ap Some c.replace.ensures.value ∙ c.in-Some.ensures.value

pub returns-in-Some-clause-slots : goal.returns-in-Some-clause-slots
returns-in-Some-clause-slots c =
    let w = c.replace.new.dest in
    written_slots c.args.self.now.slots.entries _ c.args.name.now w (c.get_mut.follows.holds w).0

pub returns-in-Some-clause-kept : goal.returns-in-Some-clause-kept
returns-in-Some-clause-kept c = λ q.
    let w = c.replace.new.dest in
    written_kept c.args.self.now.slots.entries _ c.args.name.now c.in-Some.slot.now w c.in-Some.ensures.value (c.get_mut.follows.holds w).0 q
    ∙ ap (λ (p : Place). cond (is_eq (slice_cmp nat_cmp q c.args.name.now)) p.kept_at (last_kept c.args.self.now q)) c.replace.ensures.after

pub returns-clause-ok : goal.returns-clause-ok
returns-clause-ok c =
    let place : Place = record { value = c.in_ok-value.value; kept_at = c.args.kept_at } in
    added c.args.self.now.slots.entries _ c.in_ok-name.name place c.args.name.now c.in_ok-name.ensures.items
    (c.in_ok-insert.ensures.entries ∙ ap (λ m. insert_entry key_cmp m.entries c.in_ok-name.name place) c.get_mut.follows.holds-at-none)
    ∙ ap (assigned (variables_of c.args.self.now) c.args.name.now) c.in_ok-value.ensures

pub returns-clause-before : goal.returns-clause-before
returns-clause-before c = c.in_default.ensures.value

pub returns-clause-slots : goal.returns-clause-slots
returns-clause-slots c =
    let place : Place = record { value = c.in_ok-value.value; kept_at = c.args.kept_at } in
    added_slots c.args.self.now.slots.entries _ c.in_ok-name.name place
    (c.in_ok-insert.ensures.entries ∙ ap (λ m. insert_entry key_cmp m.entries c.in_ok-name.name place) c.get_mut.follows.holds-at-none)

pub returns-clause-kept : goal.returns-clause-kept
returns-clause-kept c =
    let place : Place = record { value = c.in_ok-value.value; kept_at = c.args.kept_at } in
    added_kept c.args.self.now.slots.entries _ c.in_ok-name.name place c.args.name.now c.in_ok-name.ensures.items
    (c.in_ok-insert.ensures.entries ∙ ap (λ m. insert_entry key_cmp m.entries c.in_ok-name.name place) c.get_mut.follows.holds-at-none)
