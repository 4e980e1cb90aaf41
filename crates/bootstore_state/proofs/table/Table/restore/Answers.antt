use Rattle.std.proofs.Common.{◌∙◌, ap, sym, cond}
use Rattle.std.specs.Ordering.{nat_cmp, is_eq}
use Rattle.std.specs.Cmp.Lexicographic.{slice_cmp}
use Rattle.bootstore_state.specs.Record.{assigned}
use Rattle.bootstore_state.specs.Table.{variables_of, has_slot, last_kept, kept_of, place_value, names_before}
use Rattle.bootstore_state.proofs.TableLemmas.{written, written_same_slots, written_kept}
use Rattle.bootstore_state.proofs.table.Table.restore.Goals as goal

pub returns-in-Some-get_mut-clause-restored : goal.returns-in-Some-get_mut-clause-restored
returns-in-Some-get_mut-clause-restored c =
    written c.args.self.now.slots.entries _ c.args.name.now c.in-Some-get_mut.slot.now c.in-Some.place c.in-Some-get_mut.ensures.value (c.get_mut.follows.holds c.in-Some.place).0
    ∙ ap (λ b. assigned (variables_of c.args.self.now) c.args.name.now (place_value b)) (sym c.in-Some.is)

pub returns-in-Some-get_mut-clause-places : goal.returns-in-Some-get_mut-clause-places
returns-in-Some-get_mut-clause-places c = λ q.
    written_same_slots c.args.self.now.slots.entries _ c.args.name.now c.in-Some.place (c.get_mut.follows.holds c.in-Some.place).0 q
    ∙ ap (λ b. names_before c.args.name.now b (has_slot c.args.self.now) q) (sym c.in-Some.is)

pub returns-in-Some-get_mut-clause-kept : goal.returns-in-Some-get_mut-clause-kept
returns-in-Some-get_mut-clause-kept c = λ q.
    written_kept c.args.self.now.slots.entries _ c.args.name.now c.in-Some-get_mut.slot.now c.in-Some.place c.in-Some-get_mut.ensures.value (c.get_mut.follows.holds c.in-Some.place).0 q
    ∙ ap (λ b. cond (is_eq (slice_cmp nat_cmp q c.args.name.now)) (kept_of b) (last_kept c.args.self.now q)) (sym c.in-Some.is)
