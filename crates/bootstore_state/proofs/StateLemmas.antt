-- Variables as lists in byte order of the names are the entries of a store's map.
use Rattle.std.proofs.Common.{◌≡◌, Bool, true, false, not, cond, T, [], Option, None, refl, sym, ap, ◌∙◌}
use Rattle.std.specs.FinMap as finite
use Rattle.std.specs.FinMap.{IsAntisymmetric, nat_cmp-IsAntisymmetric, slice_cmp-IsAntisymmetric, get-entries, get-remove, get-from_sorted, from_sorted, same_map, entries, entries_sorted, entries-insert, entries-from_sorted, len-entries, len-empty, find}
use Rattle.std.specs.FinMap.Entries.{find-where_key, is_sorted-where_key}
use Rattle.std.specs.declared.cmp.Ordering.{Ordering}
use Rattle.std.specs.declared.cmp.Ordering.TheVariants.{Equal}
use Rattle.std.specs.Ordering.{nat_cmp, eq_by_cmp}
use Rattle.std.specs.Cmp.{eq_by_cmp_equiv}
use Rattle.std.proofs.lemmas.Cmp.{nat_list_cmp_total}
use Rattle.std.specs.Cmp.Lexicographic.{slice_cmp}
use Rattle.std.proofs.lemmas.List.{nil_from_length}
use Rattle.bootstore_state.specs.Moment as stored
use Rattle.rehearse_terms.specs.State.{Text, Variables, without, unwritten}
use Rattle.bootstore_state.specs.StoredState.{StoredValues, StoredChanges, StoredDeletions, StoredStarts}

abbrev by_bytes : Text → Text → Ordering
by_bytes = slice_cmp nat_cmp

exact : IsAntisymmetric by_bytes
exact = slice_cmp-IsAntisymmetric nat_cmp-IsAntisymmetric

pub stored_values : StoredValues
stored_values variables name = sym (get-entries variables name)

pub stored_changes : StoredChanges
stored_changes variables name value = entries-insert nat_list_cmp_total variables name value

turned : {A : Type 0} (b : Bool) (x y : A) → cond (not b) x y ≡ cond b y x
turned true x y = refl
turned false x y = refl

-- a test answers alike for names that compare as equal
alike : (p : Text → Bool) (q x : Text) → by_bytes q x ≡ Equal → p x ≡ p q
alike p q x e = ap p (sym (exact q x e))

module _ (variables : stored.Variables) (name : Text) where
  abbrev stays : Text → Bool
  stays other = not (eq_by_cmp by_bytes name other)

  left_sorted : T (finite.is_sorted by_bytes (without (entries variables) name))
  left_sorted = is_sorted-where_key by_bytes stays (entries variables) (entries_sorted variables)

  -- the map of the entries that are left answers like the map without the name
  left_value : (q : Text) → finite.get (from_sorted {R = by_bytes} (without (entries variables) name)) q ≡ finite.get (finite.remove variables name) q
  left_value q =
      get-from_sorted by_bytes (without (entries variables) name) q left_sorted
      ∙ find-where_key by_bytes stays q (alike stays q) (entries variables)
      ∙ turned (eq_by_cmp by_bytes name q) (find by_bytes q (entries variables)) None
      ∙ ap (λ (b : Bool). cond b None (find by_bytes q (entries variables))) ((eq_by_cmp_equiv nat_list_cmp_total).symm name q)
      ∙ ap (λ (o : Option Text). cond (eq_by_cmp by_bytes q name) None o) (sym (get-entries variables q))
      ∙ sym (get-remove nat_list_cmp_total variables name q)

  pub left_entries : entries (finite.remove variables name) ≡ without (entries variables) name
  left_entries =
      sym (ap entries (same_map nat_list_cmp_total exact (from_sorted {R = by_bytes} (without (entries variables) name)) (finite.remove variables name) left_value))
      ∙ entries-from_sorted by_bytes (without (entries variables) name) left_sorted

pub stored_deletions : StoredDeletions
stored_deletions = left_entries

no_entries : entries (finite.empty {X = Text} {R = by_bytes}) ≡ []
no_entries = nil_from_length (entries finite.empty) (sym (len-entries finite.empty) ∙ len-empty by_bytes Text)

pub stored_starts : StoredStarts
stored_starts written environment word = ap (λ (locals : Variables). record { memory = record { environment = entries environment; locals = locals; status = 0; text = unwritten written }; log = []; steps = 0; word = word }) no_entries
