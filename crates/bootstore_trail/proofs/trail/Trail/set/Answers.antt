use Rattle.std.proofs.Common.{ap, ◌+◌, ◌∙◌, reverse, sym, subst, is_some}
use Rattle.std.proofs.lemmas.Bool.{eqb-true}
use Rattle.std.proofs.lemmas.List.{length-reverse}
use Rattle.bootstore_trail.specs.declared.inverse.Inverse.TheVariants.{Variable}
use Rattle.bootstore_trail.specs.declared.inverse.Kept.TheVariants.{Change}
use Rattle.text.specs.TextsShown.{option_bytes}
use Rattle.bootstore_state.specs.Record.{changed}
use Rattle.bootstore_state.specs.Table.{place_value, IsWith, AreEqual, last_kept}
use Rattle.bootstore_trail.specs.Inverse.{CanGoBack, KeepsOnce, EachIsKept, find_places, is_of, marked_before}
use Rattle.bootstore_state.specs.Present.{moment_of, table_of, with_table, with_variable}
use Rattle.bootstore_trail.specs.Trail.{record_of_trail}
use Rattle.bootstore_state.proofs.TableLemmas.{found}
use Rattle.bootstore_trail.proofs.TrailLemmas.{can_set, still_find, can_kept, some_kept, no_items, no_bytes, kept_last, set_twice, set_same, table_set, same_record}
use Rattle.bootstore_trail.proofs.OneInversePerName.{once_set, kept_equal, with_none, once_kept, marked_once, on_either, with_same}
use Rattle.bootstore_trail.proofs.trail.Trail.set.Goals as goal

pub invariant_of-self : goal.invariant_of-self
invariant_of-self c =
    let old = c.args.self.now in
    let new = last_kept c.set.new.self in
    let scope = c.args.scope in
    let last = last_kept (table_of old.present scope) in
    let kept = reverse old.kept.items in
    let each = old.once.variables scope in
    record {
      can = can_set old.present c.set.new.self _ _ old.can scope (ap (find_places _ _) (ap reverse (no_items old.kept (eqb-true _ _ (sym c.is_empty.ensures ∙ c.if-is_empty.true)))));
      once = once_set old.present c.set.new.self _ _ old.once scope
          (on_either c.set.result (IsWith last c.args.name.now 0 new) (AreEqual last new) (EachIsKept (is_of scope) new kept) (rw c.table_mut.ensures.value at c.set.ensures.kept) (rw c.table_mut.ensures.value at c.set.ensures.kept_err)
          (λ e. with_none (is_of scope) last new c.args.name.now kept e each) (kept_equal (is_of scope) last new kept each));
    }

-- a name without a value is deleted: nothing changes
pub returns-then-is_none-2-clause-ok : goal.returns-then-is_none-2-clause-ok
returns-then-is_none-2-clause-ok c =
    let absent = rw c.table-table.ensures at c.get.ensures in
    let none = no_bytes c.get.result c.if-is_none-2.ensures ∙ sym (no_bytes c.args.value c.if-is_none.ensures) in
    sym (ap (λ n. changed (λ _. n) (record_of_trail c.args.self.now)) (set_same c.args.self.now.present c.args.scope c.args.name.now (option_bytes c.args.value) (sym absent ∙ none)))

pub invariant_of-self-then-kept_at-self : goal.invariant_of-self-then-kept_at-self
invariant_of-self-then-kept_at-self c =
    let old = c.args.self.now in
    let new = last_kept c.put.new.self in
    let scope = c.args.scope in
    let last = last_kept (table_of old.present scope) in
    let value = c.table_mut-then-kept_at-self.ensures.value in
    let count = rw c.table-table.ensures at c.kept_at-kept_at.ensures in
    record {
      can = can_set old.present c.put.new.self _ _ old.can scope (still_find old.present c.put.new.self _ _ old.can scope (rw value at c.put.ensures.slots));
      once = once_set old.present c.put.new.self _ _ old.once scope (kept_equal (is_of scope) last new (reverse old.kept.items) (old.once.variables scope)
          (on_either c.put.result (IsWith last c.args.name.now c.kept_at-kept_at.result new) (AreEqual last new) (AreEqual last new) (rw value at c.put.ensures.kept) (rw value at c.put.ensures.kept_err)
          (λ e. with_same last new c.args.name.now c.kept_at-kept_at.result e count) (λ e. e)));
    }

pub returns-then-kept_at-self-clause-ok : goal.returns-then-kept_at-self-clause-ok
returns-then-kept_at-self-clause-ok c =
    let old = c.args.self.now in
    let o = option_bytes c.args.value in
    let set = table_set old.present c.put.new.self c.args.scope c.args.name.now o (rw c.table_mut-then-kept_at-self.ensures.value at c.in_ok-put.ensures.ok) in
    same_record _ _ _ _ old.begun set (ap (λ n. marked_before n (reverse old.kept.items)) set
    ∙ marked_once c.args.scope old.present _ _ old.once (moment_of old.present) c.args.name.now o c.kept_at-kept_at.result c.if-kept_at-self.true (rw c.table-table.ensures at c.kept_at-kept_at.ensures))

pub invariant_of-self-in-Break-branch-7 : goal.invariant_of-self-in-Break-branch-7
invariant_of-self-in-Break-branch-7 c =
    let old = c.args.self.now in
    let new = c.put-2.new.self in
    let value = c.table_mut-2.ensures.value in
    let now = with_table old.present c.args.scope new in
    record {
      can = subst (λ ks. CanGoBack now old.since.untouched (reverse ks)) (sym c.reserve.ensures.items) (can_set old.present new _ _ old.can c.args.scope (still_find old.present new _ _ old.can c.args.scope (rw value at c.put-2.ensures.slots)));
      once = subst (λ ks. KeepsOnce now old.since.kept (reverse ks)) (sym c.reserve.ensures.items) (once_set old.present new _ _ old.once c.args.scope (kept_equal (is_of c.args.scope) _ (last_kept new) (reverse old.kept.items) (old.once.variables c.args.scope) (rw value at c.in_err-before.ensures.kept_err)));
    }

pub invariant_of-self-2 : goal.invariant_of-self-2
invariant_of-self-2 c =
    let old = c.args.self.now in
    let scope = c.args.scope in
    let name = c.args.name.now in
    let new = c.put-2.new.self in
    let value = c.table_mut-2.ensures.value in
    let key = c.in_ok-key.key in
    let before = c.in_ok-before.before in
    let last = kept_last old.kept c.reserve.new.self c.push_reserved.new.self (Change (Variable scope key before)) c.reserve.ensures.items c.push_reserved.ensures.items in
    let some = some_kept old.kept c.is_empty.result c.is_empty.ensures c.if-is_empty.false in
    let count = c.len-kept_at.ensures ∙ c.reserve.ensures.len ∙ old.kept.ok.0 ∙ sym (length-reverse old.kept.items) in
    let told = subst (λ n. IsWith (last_kept (table_of old.present scope)) name (n + 1) (last_kept new)) count (rw value at c.in_ok-before.ensures.kept) in
    let was = rw value at c.in_ok-before.ensures.before in
    record {
      can = subst (CanGoBack (with_table old.present scope new) old.since.untouched) (sym last) (can_kept old.present new _ _ old.can scope name key before some c.in_ok-key.ensures.items (rw value at c.put-2.ensures.slots) (sym (ap is_some was)));
      once = subst (KeepsOnce (with_table old.present scope new) old.since.kept) (sym last) (once_kept old.present new _ _ old.once scope name key before c.in_ok-key.ensures.items was told);
    }

pub returns-clause-ok : goal.returns-clause-ok
returns-clause-ok c =
    let old = c.args.self.now in
    let scope = c.args.scope in
    let name = c.args.name.now in
    let o = option_bytes c.args.value in
    let value = c.table_mut-2.ensures.value in
    let before = c.in_ok-before.before in
    let set = table_set old.present c.put-2.new.self scope name o (rw value at c.in_ok-before.ensures.ok) in
    let last = kept_last old.kept c.reserve.new.self c.push_reserved.new.self (Change (Variable scope c.in_ok-key.key before)) c.reserve.ensures.items c.push_reserved.ensures.items in
    let was = found (table_of old.present scope).slots.entries name before (rw value at c.in_ok-before.ensures.before) in
    let back = ap (λ n. with_variable scope n (place_value before) (with_variable scope name o (moment_of old.present))) c.in_ok-key.ensures.items ∙ set_twice _ scope name o _ ∙ set_same old.present scope name _ (sym was) in
    same_record _ _ _ _ old.begun set (ap (λ n. marked_before n (reverse c.push_reserved.new.self.items)) set ∙ ap (marked_before (with_variable scope name o (moment_of old.present))) last ∙ ap (λ n. marked_before n (reverse old.kept.items)) back)
