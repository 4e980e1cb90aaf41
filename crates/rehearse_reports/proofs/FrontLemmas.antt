-- Keys in front of a report, found one by one.
use Rattle.std.proofs.Common.{◌≡◌, ◌∙◌, refl, sym, ap, subst, Bool, true, false, cond, List, [], ◌∷◌, ◌++◌, append_assoc, append-nil, length, map, filter, not, inl, inr, Result, Ok, Err}
use Rattle.std.specs.Prelude.{OnOk}
use Rattle.std.specs.declared.alloc.AllocError.{AllocError}
use Rattle.std.specs.List.{list_any}
use Rattle.std.proofs.lemmas.List.{map-append}
use Rattle.indexmap.specs.IndexSet.{insert_key}
use Rattle.rehearse_reads.specs.Keys.{IsAmong, Key, Writes, AreAmong, all_read, same_key, keys_in_front}
use Rattle.rehearse_reads.proofs.KeysRead.{all_of_more, all_itself}
use Rattle.rehearse_reports.specs.Reports.{AddsUnwritten, AreAlike, unwritten}
use Rattle.rehearse_reports.specs.ReportsShown.{key_shown, keys_shown}
use Rattle.rehearse_reports.specs.declared.key.Key.{Key as Key_in}
use Rattle.rehearse_reports.proofs.KeyEquality.{are_equal, found_as_shown}
use Rattle.rehearse_reports.proofs.MemberLemmas.{all_by, behind_writes, before_writes, each_of, found_among, among_left, among_right, among_either, in_front_of_reads}

pub alike_itself : (keys : List Key) → AreAlike keys keys
alike_itself keys = record { all = all_itself keys; no_more = all_itself keys }

-- of keys that are read, and no others written, in front of others
pub reads_before : (keys later : List Key) → keys_in_front (all_read keys) later ≡ keys ++ later
reads_before [] later = refl
reads_before (key ∷ keys) later = ap (λ (ks : List Key). key ∷ ks) (reads_before keys later)

pub none_left : {A : Type 0} (items : List A) → length items ≡ 0 → items ≡ []
none_left [] none = refl
none_left (x ∷ items) none = absurd (cc)

alike_by : (one other : List Key) → ((x : Key) → IsAmong x one → IsAmong x other) → ((x : Key) → IsAmong x other → IsAmong x one) → AreAlike one other
alike_by one other to from = record { all = all_by one other to; no_more = all_by other one from }

pub alike_then : (start one other : List Key) → AreAlike start one → AreAlike one other → AreAlike start other
alike_then start one other a b = record {
  all = all_of_more start one other a.all b.all;
  no_more = all_of_more other one start b.no_more a.no_more;
}

-- the keys of one, and some more
alike_more : (one other more : List Key) → AreAlike one other → AreAlike (one ++ more) (other ++ more)
alike_more one other more alike = alike_by (one ++ more) (other ++ more) (to one other alike.all) (to other one alike.no_more)
  where
    to : (a b : List Key) → AreAmong a b → (x : Key) → IsAmong x (a ++ more) → IsAmong x (b ++ more)
    to a b all x h = elim (among_either x a more h) [ inl g ↦ among_left x b more (each_of a b all x g) | inr g ↦ among_right x b more g ]

-- whatever was found before
after_found : (x : Key) (found one other : List Key) → (IsAmong x one → IsAmong x other) → IsAmong x (found ++ one) → IsAmong x (found ++ other)
after_found x found one other to h = elim (among_either x found one h) [ inl g ↦ among_left x found other g | inr g ↦ among_right x found other (to g) ]

-- a key that goes last, unless it is there already
inserted : (found : List Key_in) (key : Key_in) → AreAlike (keys_shown found ++ key_shown key ∷ []) (keys_shown (insert_key are_equal found key))
inserted found key = by (list_any (are_equal key) found) (found_as_shown key found)
  where
    there : list_any (same_key (key_shown key)) (keys_shown found) ≡ true → (x : Key) → IsAmong x (keys_shown found ++ key_shown key ∷ []) → IsAmong x (keys_shown found)
    there e x h = elim (among_either x (keys_shown found) (key_shown key ∷ []) h) [
      | inl g ↦ g
      | inr g ↦ elim g [ inl same ↦ subst (λ (k : Key). IsAmong k (keys_shown found)) (sym same) (found_among (key_shown key) (keys_shown found) e) | inr none ↦ absurd none ]
    ]

    by : (b : Bool) → b ≡ list_any (same_key (key_shown key)) (keys_shown found) → AreAlike (keys_shown found ++ key_shown key ∷ []) (keys_shown (cond b found (found ++ key ∷ [])))
    by true e = alike_by (keys_shown found ++ key_shown key ∷ []) (keys_shown found) (there (sym e)) (λ x h. among_left x (keys_shown found) (key_shown key ∷ []) h)
    by false e = subst (AreAlike (keys_shown found ++ key_shown key ∷ [])) (sym (map-append key_shown found (key ∷ []))) (alike_itself (keys_shown found ++ key_shown key ∷ []))

module _ (start : List Key) (found : List Key_in) (key : Key_in) where
  -- it is added, and the rest is still to be
  one_added : (rest : List Key) → AreAlike start (keys_shown found ++ key_shown key ∷ rest) → AreAlike start (keys_shown (insert_key are_equal found key) ++ rest)
  one_added rest so = alike_then start (keys_shown found ++ key_shown key ∷ rest) (keys_shown (insert_key are_equal found key) ++ rest) so
      (subst (λ (ks : List Key). AreAlike ks (keys_shown (insert_key are_equal found key) ++ rest)) (append_assoc (keys_shown found) (key_shown key ∷ []) rest)
      (alike_more (keys_shown found ++ key_shown key ∷ []) (keys_shown (insert_key are_equal found key)) rest (inserted found key)))

  pub one_stepped : (more : List Key_in) (rest : List Key) → more ≡ insert_key are_equal found key → AreAlike start (keys_shown found ++ key_shown key ∷ rest) → AreAlike start (keys_shown more ++ rest)
  one_stepped more rest is so = subst (λ (ks : List Key_in). AreAlike start (keys_shown ks ++ rest)) (sym is) (one_added rest so)

-- nothing is left to be added
pub all_added : (start found rest : List Key) → rest ≡ [] → AreAlike start (found ++ rest) → AreAlike start found
all_added start found rest none so = subst (AreAlike start) (ap (λ (ks : List Key). found ++ ks) none ∙ append-nil found) so

-- ---- without the keys that were written

pub none_unwritten : (written : List Key) → unwritten written [] ≡ []
none_unwritten [] = refl
none_unwritten (key ∷ written) = ap (λ (ks : List Key). filter (λ other. not (same_key other key)) ks) (none_unwritten written)

module _ (written : List Key) (key : Key) (rest found : List Key) where
  further : (x : Key) → IsAmong x (unwritten written rest) → IsAmong x (unwritten written (key ∷ rest))
  further x h = let g = behind_writes x written rest h in before_writes x written (key ∷ rest) (inr g.0) g.1

  -- a key that was written
  key_dropped : list_any (same_key key) written ≡ true → AreAlike (found ++ unwritten written (key ∷ rest)) (found ++ unwritten written rest)
  key_dropped e = alike_by (found ++ unwritten written (key ∷ rest)) (found ++ unwritten written rest)
      (λ x. after_found x found (unwritten written (key ∷ rest)) (unwritten written rest) (λ h. let g = behind_writes x written (key ∷ rest) h in to x g.0 g.1))
      (λ x. after_found x found (unwritten written rest) (unwritten written (key ∷ rest)) (further x))
    where
      to : (x : Key) → IsAmong x (key ∷ rest) → list_any (same_key x) written ≡ false → IsAmong x (unwritten written rest)
      to x (inl same) f = absurd (let b : list_any (same_key key) written ≡ false = subst (λ (k : Key). list_any (same_key k) written ≡ false) same f in cc)
      to x (inr g) f = before_writes x written rest g f

  -- another key
  key_kept : list_any (same_key key) written ≡ false → AreAlike (found ++ unwritten written (key ∷ rest)) (found ++ key ∷ unwritten written rest)
  key_kept e = alike_by (found ++ unwritten written (key ∷ rest)) (found ++ key ∷ unwritten written rest)
      (λ x. after_found x found (unwritten written (key ∷ rest)) (key ∷ unwritten written rest) (λ h. let g = behind_writes x written (key ∷ rest) h in to x g.0 g.1))
      (λ x. after_found x found (key ∷ unwritten written rest) (unwritten written (key ∷ rest)) (from x))
    where
      to : (x : Key) → IsAmong x (key ∷ rest) → list_any (same_key x) written ≡ false → IsAmong x (key ∷ unwritten written rest)
      to x (inl same) f = inl same
      to x (inr g) f = inr (before_writes x written rest g f)

      from : (x : Key) → IsAmong x (key ∷ unwritten written rest) → IsAmong x (unwritten written (key ∷ rest))
      from x (inl same) = before_writes x written (key ∷ rest) (inl same) (subst (λ (k : Key). list_any (same_key k) written ≡ false) (sym same) e)
      from x (inr g) = further x g

module _ (written : List Key) (found : List Key_in) (key : Key_in) where
  pub written_left_out : true ≡ list_any (same_key (key_shown key)) written → AddsUnwritten written (keys_shown found) (key_shown key) (keys_shown found)
  written_left_out e rest = key_dropped written (key_shown key) rest (keys_shown found) (sym e)

  pub unwritten_added : (more : List Key_in) → more ≡ insert_key are_equal found key → false ≡ list_any (same_key (key_shown key)) written → AddsUnwritten written (keys_shown found) (key_shown key) (keys_shown more)
  unwritten_added more is e rest =
      subst (λ (ks : List Key_in). AreAlike (keys_shown found ++ unwritten written (key_shown key ∷ rest)) (keys_shown ks ++ unwritten written rest)) (sym is)
      (one_added (keys_shown found ++ unwritten written (key_shown key ∷ rest)) found key (unwritten written rest) (key_kept written (key_shown key) rest (keys_shown found) (sym e)))

-- ---- the keys in front of a stretch: those that it reads, and those after it without those that it writes

in_front_added : (old read mid written later new : List Key) → AreAlike (old ++ read) mid → AreAlike (mid ++ unwritten written later) new
    → AreAlike (old ++ keys_in_front (all_read read ++ map Writes written) later) new
in_front_added old read mid written later new first then =
    let back = unwritten written later in
    subst (λ (ks : List Key). AreAlike (old ++ ks) new) (sym (in_front_of_reads read (map Writes written) later))
    (subst (λ (ks : List Key). AreAlike ks new) (append_assoc old read back)
    (alike_then ((old ++ read) ++ back) (mid ++ back) new (alike_more (old ++ read) mid back first) then))

pub in_front_added_if : (r : Result (Unit {0}) AllocError) (old read mid written later new : List Key) → AreAlike (old ++ read) mid → OnOk r (AreAlike (mid ++ unwritten written later) new)
    → OnOk r (AreAlike (old ++ keys_in_front (all_read read ++ map Writes written) later) new)
in_front_added_if (Ok u) old read mid written later new first then = in_front_added old read mid written later new first then
in_front_added_if (Err e) old read mid written later new first then = then
