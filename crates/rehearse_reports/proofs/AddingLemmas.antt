-- A report after one more access.
use Rattle.std.proofs.Common.{◌≡◌, ◌∙◌, refl, sym, ap, subst, Bool, true, false, not, ◌||◌, if◌then◌else◌, List, [], ◌∷◌, ◌++◌, length, map, inl, inr, ◌⊎◌}
use Rattle.indexmap.specs.IndexSet.{IndexSet, insert_key}
use Rattle.keyed_hash.specs.declared.keyed.KeyedHash.{KeyedHash}
use Rattle.std.specs.List.{list_any}
use Rattle.std.proofs.lemmas.Bool.{or_parts, or_right}
use Rattle.rehearse_reads.specs.Keys.{Key, Access, Reads, Writes, IsAmong, all_read, same_key, keys_in_front}
use Rattle.rehearse_reads.proofs.KeysRead.{stretches_join}
use Rattle.rehearse_reports.specs.Reports.{Adds}
use Rattle.rehearse_reports.specs.ReportsShown.{key_shown, keys_shown, accesses_shown, is_in}
use Rattle.rehearse_reports.specs.declared.key.Key.{Key as Key_in}
use Rattle.rehearse_reports.specs.declared.reported.Reported.{Reported}
use Rattle.rehearse_reports.proofs.MemberLemmas.{all_by, HasToBeKnown, known_so, so_known, behind_write, before_write, equal_keys, found_among, any_found, same_found}
use Rattle.rehearse_reports.proofs.KeyEquality.{are_equal, found_as_shown, any_inserted}

abbrev report : (read written : List Key) → List Access
report read written = all_read read ++ map Writes written

-- by the keys that have to be known, one by one
module _ (read written more_read more_written : List Key) (access : Access) where
  pub adds_by : ((x : Key) (later : List Key) → HasToBeKnown x read written (keys_in_front (access ∷ []) later) → HasToBeKnown x more_read more_written later)
      → ((x : Key) (later : List Key) → HasToBeKnown x more_read more_written later → HasToBeKnown x read written (keys_in_front (access ∷ []) later))
      → Adds (report read written) (report more_read more_written) (access ∷ [])
  adds_by to from = record {
    covers = λ later. all_by (keys_in_front (report read written ++ access ∷ []) later) (keys_in_front (report more_read more_written) later)
        (λ x h. so_known x more_read more_written later (to x later (known_so x read written (keys_in_front (access ∷ []) later) (subst (IsAmong x) (stretches_join (report read written) (access ∷ []) later) h))));
    no_more = λ later. all_by (keys_in_front (report more_read more_written) later) (keys_in_front (report read written ++ access ∷ []) later)
        (λ x h. subst (IsAmong x) (sym (stretches_join (report read written) (access ∷ []) later)) (so_known x read written (keys_in_front (access ∷ []) later) (from x later (known_so x more_read more_written later h))));
  }

-- with one key more
abbrev pub HasOneMore : (keys more : List Key) (key : Key) → Type 0
HasOneMore keys more key = (x : Key) → list_any (same_key x) more ≡ (list_any (same_key x) keys || same_key x key)

either : (a b : Bool) → (a || b) ≡ true → (a ≡ true) ⊎ (b ≡ true)
either true b e = inl refl
either false b e = inr e

module _ (read written : List Key) (key : Key) where
  -- a key that was written is read
  pub reads_written : list_any (same_key key) written ≡ true → Adds (report read written) (report read written) (Reads key ∷ [])
  reads_written e = adds_by read written read written (Reads key) to (λ x later h. elim h [ inl g ↦ inl g | inr g ↦ inr (inr g.0, g.1) ])
    where
      to : (x : Key) (later : List Key) → HasToBeKnown x read written (key ∷ later) → HasToBeKnown x read written later
      to x later (inl g) = inl g
      to x later (inr (inl same, f)) = absurd (let b : list_any (same_key key) written ≡ false = subst (λ (k : Key). list_any (same_key k) written ≡ false) same f in cc)
      to x later (inr (inr g, f)) = inr (g, f)

  -- another key is read, or one that was read
  pub reads_new : (more : List Key) → HasOneMore read more key → list_any (same_key key) written ≡ false → Adds (report read written) (report more written) (Reads key ∷ [])
  reads_new more has e = adds_by read written more written (Reads key) to from
    where
      to : (x : Key) (later : List Key) → HasToBeKnown x read written (key ∷ later) → HasToBeKnown x more written later
      to x later (inl g) = inl (found_among x more (has x ∙ ap (λ (b : Bool). b || same_key x key) (any_found x read g)))
      to x later (inr (inl same, f)) = inl (found_among x more (has x ∙ or_right (list_any (same_key x) read) (same_key x key) (same_found x key same)))
      to x later (inr (inr g, f)) = inr (g, f)

      from : (x : Key) (later : List Key) → HasToBeKnown x more written later → HasToBeKnown x read written (key ∷ later)
      from x later (inl g) = elim (either (list_any (same_key x) read) (same_key x key) (sym (has x) ∙ any_found x more g)) [
        | inl h ↦ inl (found_among x read h)
        | inr h ↦ let same = equal_keys x key h in inr (inl same, subst (λ (k : Key). list_any (same_key k) written ≡ false) (sym same) e)
      ]
      from x later (inr g) = inr (inr g.0, g.1)

  -- a key is written
  pub writes_new : (more : List Key) → HasOneMore written more key → Adds (report read written) (report read more) (Writes key ∷ [])
  writes_new more has = adds_by read written read more (Writes key) to from
    where
      to : (x : Key) (later : List Key) → HasToBeKnown x read written (keys_in_front (Writes key ∷ []) later) → HasToBeKnown x read more later
      to x later (inl g) = inl g
      to x later (inr g) =
          let b = behind_write x key later g.0 in
          inr (b.0, has x ∙ ap (λ (a : Bool). a || same_key x key) g.1 ∙ b.1)

      from : (x : Key) (later : List Key) → HasToBeKnown x read more later → HasToBeKnown x read written (keys_in_front (Writes key ∷ []) later)
      from x later (inl g) = inl g
      from x later (inr g) =
          let p = or_parts (list_any (same_key x) written) (same_key x key) (sym (has x) ∙ g.1) in
          inr (before_write x key later g.0 p.1, p.0)

-- ---- the program's reports

-- no key is in a set that is empty
pub none_in : (key : Key_in) (set : IndexSet Key_in KeyedHash) → length set.keys ≡ 0 → false ≡ is_in key set
none_in key set none = by set.keys none
  where
    by : (keys : List Key_in) → length keys ≡ 0 → false ≡ list_any (same_key (key_shown key)) (keys_shown keys)
    by [] e = refl
    by (k ∷ keys) e = absurd (cc)

-- a key is found in a set as it is among the keys that are shown
pub found_in : (b : Bool) (key : Key_in) (set : IndexSet Key_in KeyedHash) → b ≡ list_any (are_equal key) set.keys → b ≡ is_in key set
found_in b key set e = e ∙ found_as_shown key set.keys

module _ (r : Reported) (key : Key_in) where
  pub reads_shown_written : true ≡ is_in key r.written → Adds (accesses_shown r) (accesses_shown r) (Reads (key_shown key) ∷ [])
  reads_shown_written e = reads_written (keys_shown r.read.keys) (keys_shown r.written.keys) (key_shown key) (sym e)

  pub reads_shown_new : (read : IndexSet Key_in KeyedHash) → read.keys ≡ insert_key are_equal r.read.keys key → false ≡ is_in key r.written
      → Adds (accesses_shown r) (all_read (keys_shown read.keys) ++ map Writes (keys_shown r.written.keys)) (Reads (key_shown key) ∷ [])
  reads_shown_new read inserted e = reads_new (keys_shown r.read.keys) (keys_shown r.written.keys) (key_shown key) (keys_shown read.keys)
      (λ x. ap (λ (ks : List Key_in). list_any (same_key x) (keys_shown ks)) inserted ∙ any_inserted x r.read.keys key)
      (sym e)

  pub writes_shown : (written : IndexSet Key_in KeyedHash) → written.keys ≡ insert_key are_equal r.written.keys key
      → Adds (accesses_shown r) (all_read (keys_shown r.read.keys) ++ map Writes (keys_shown written.keys)) (Writes (key_shown key) ∷ [])
  writes_shown written inserted = writes_new (keys_shown r.read.keys) (keys_shown r.written.keys) (key_shown key) (keys_shown written.keys)
      (λ x. ap (λ (ks : List Key_in). list_any (same_key x) (keys_shown ks)) inserted ∙ any_inserted x r.written.keys key)
