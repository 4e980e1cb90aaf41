-- Keys among others, one by one.
use Rattle.std.proofs.Common.{◌≡◌, ◌∙◌, refl, sym, ap, subst, Bool, true, false, not, ◌||◌, cond, List, [], ◌∷◌, ◌++◌, map, filter, inl, inr, ◌⊎◌}
use Rattle.std.specs.List.{list_any}
use Rattle.std.specs.Str.{bytes_eq}
use Rattle.rehearse_reads.specs.Keys.{Key, Access, Reads, Writes, IsAmong, AreAmong, all_read, same_key, keys_in_front, Covers}
use Rattle.rehearse_reads.specs.Keys.{ReadsWithin, keys_read}
use Rattle.rehearse_reads.proofs.KeysRead.{keys_read_suffice}

-- keys are among others if each of them is
pub all_by : (xs ys : List Key) → ((x : Key) → IsAmong x xs → IsAmong x ys) → AreAmong xs ys
all_by [] ys h = tt
all_by (x ∷ xs) ys h = (h x (inl refl), all_by xs ys (λ k g. h k (inr g)))

one_of_more : (key : Key) (keys more : List Key) → IsAmong key keys → AreAmong keys more → IsAmong key more
one_of_more key [] more h all = absurd h
one_of_more key (k ∷ keys) more (inl same) all = subst (λ (x : Key). IsAmong x more) (sym same) all.0
one_of_more key (k ∷ keys) more (inr h) all = one_of_more key keys more h all.1

pub each_of : (xs ys : List Key) → AreAmong xs ys → (x : Key) → IsAmong x xs → IsAmong x ys
each_of xs ys h x g = one_of_more x xs ys g h

pub among_left : (key : Key) (keys more : List Key) → IsAmong key keys → IsAmong key (keys ++ more)
among_left key [] more h = absurd h
among_left key (k ∷ keys) more (inl same) = inl same
among_left key (k ∷ keys) more (inr h) = inr (among_left key keys more h)

pub among_right : (key : Key) (keys more : List Key) → IsAmong key more → IsAmong key (keys ++ more)
among_right key [] more h = h
among_right key (k ∷ keys) more h = inr (among_right key keys more h)

pub among_either : (x : Key) (xs ys : List Key) → IsAmong x (xs ++ ys) → IsAmong x xs ⊎ IsAmong x ys
among_either x [] ys h = inr h
among_either x (k ∷ xs) ys (inl e) = inl (inl e)
among_either x (k ∷ xs) ys (inr h) = elim (among_either x xs ys h) [ inl g ↦ inl (inr g) | inr g ↦ inr g ]

kept_among : (p : Key → Bool) (x : Key) (keys : List Key) → p x ≡ true → IsAmong x keys → IsAmong x (filter p keys)
kept_among p x [] e h = h
kept_among p x (k ∷ keys) e (inl same) = by (p k) (ap p (sym same) ∙ e)
  where
    by : (b : Bool) → b ≡ true → IsAmong x (cond b (k ∷ filter p keys) (filter p keys))
    by true f = inl same
    by false f = absurd (cc)
kept_among p x (k ∷ keys) e (inr h) = by (p k) (kept_among p x keys e h)
  where
    by : (b : Bool) → IsAmong x (filter p keys) → IsAmong x (cond b (k ∷ filter p keys) (filter p keys))
    by true rest = inr rest
    by false rest = rest

kept_so : (p : Key → Bool) (x : Key) (keys : List Key) → IsAmong x (filter p keys) → IsAmong x keys × (p x ≡ true)
kept_so p x [] h = absurd h
kept_so p x (k ∷ keys) h = by (p k) refl h (kept_so p x keys)
  where
    by : (b : Bool) → p k ≡ b → IsAmong x (cond b (k ∷ filter p keys) (filter p keys)) → (IsAmong x (filter p keys) → IsAmong x keys × (p x ≡ true)) → IsAmong x (k ∷ keys) × (p x ≡ true)
    by true e (inl same) rest = (inl same, ap p same ∙ e)
    by true e (inr g) rest = let r = rest g in (inr r.0, r.1)
    by false e g rest = let r = rest g in (inr r.0, r.1)

-- keys that are found equal are equal: one that was written need not be known
pub equal_keys : (x key : Key) → same_key x key ≡ true → x ≡ key
equal_keys x key e =
    let nothing : AreAmong (keys_read (Writes key ∷ Reads x ∷ [])) [] = subst (λ (b : Bool). AreAmong (cond (not b) (x ∷ []) []) []) (sym e) tt in
    elim ((keys_read_suffice (Writes key ∷ Reads x ∷ []) []).1 nothing).0 [ inl same ↦ same | inr other ↦ absurd other ]

not_other : (x : Key) → same_key x x ≡ false → ⊥
not_other x e =
    let known : ReadsWithin [] (Writes x ∷ Reads x ∷ []) = (inl refl, tt) in
    (subst (λ (b : Bool). AreAmong (cond (not b) (x ∷ []) []) []) e ((keys_read_suffice (Writes x ∷ Reads x ∷ []) []).0 known)).0

-- a key that has to be known before a write has to be known later, and is another one
pub behind_write : (x key : Key) (later : List Key) → IsAmong x (filter (λ other. not (same_key other key)) later) → IsAmong x later × (same_key x key ≡ false)
behind_write x key later h =
    let r = kept_so (λ other. not (same_key other key)) x later h in (r.0, by (same_key x key) r.1)
  where
    by : (b : Bool) → not b ≡ true → b ≡ false
    by true e = absurd (cc)
    by false e = refl

pub before_write : (x key : Key) (later : List Key) → IsAmong x later → same_key x key ≡ false → IsAmong x (filter (λ other. not (same_key other key)) later)
before_write x key later h e = kept_among (λ other. not (same_key other key)) x later (ap not e) h

no_either : (a b : Bool) → (a || b) ≡ false → (a ≡ false) × (b ≡ false)
no_either true b e = absurd (cc)
no_either false b e = (refl, e)

-- the same of writes in turn
pub behind_writes : (x : Key) (written later : List Key) → IsAmong x (keys_in_front (map Writes written) later) → IsAmong x later × (list_any (same_key x) written ≡ false)
behind_writes x [] later h = (h, refl)
behind_writes x (w ∷ written) later h =
    let first = behind_write x w (keys_in_front (map Writes written) later) h in
    let rest = behind_writes x written later first.0 in
    (rest.0, ap (λ (b : Bool). b || list_any (same_key x) written) first.1 ∙ rest.1)

pub before_writes : (x : Key) (written later : List Key) → IsAmong x later → list_any (same_key x) written ≡ false → IsAmong x (keys_in_front (map Writes written) later)
before_writes x [] later h e = h
before_writes x (w ∷ written) later h e =
    let parts = no_either (same_key x w) (list_any (same_key x) written) e in
    before_write x w (keys_in_front (map Writes written) later) (before_writes x written later h parts.1) parts.0

pub in_front_of_reads : (read : List Key) (accesses : List Access) (later : List Key) → keys_in_front (all_read read ++ accesses) later ≡ read ++ keys_in_front accesses later
in_front_of_reads [] accesses later = refl
in_front_of_reads (key ∷ read) accesses later = ap (λ (keys : List Key). key ∷ keys) (in_front_of_reads read accesses later)

-- ---- a report: keys that were read, and then keys that were written

-- a key has to be known before the report if it was read, or has to be known later and was not written
abbrev pub HasToBeKnown : (x : Key) (read written later : List Key) → Type 0
HasToBeKnown x read written later = IsAmong x read ⊎ (IsAmong x later × (list_any (same_key x) written ≡ false))

pub known_so : (x : Key) (read written later : List Key) → IsAmong x (keys_in_front (all_read read ++ map Writes written) later) → HasToBeKnown x read written later
known_so x read written later h =
    elim (among_either x read (keys_in_front (map Writes written) later) (subst (IsAmong x) (in_front_of_reads read (map Writes written) later) h)) [
      | inl g ↦ inl g
      | inr g ↦ inr (behind_writes x written later g)
    ]

pub so_known : (x : Key) (read written later : List Key) → HasToBeKnown x read written later → IsAmong x (keys_in_front (all_read read ++ map Writes written) later)
so_known x read written later h =
    subst (IsAmong x) (sym (in_front_of_reads read (map Writes written) later)) (elim h [
      | inl g ↦ among_left x read (keys_in_front (map Writes written) later) g
      | inr g ↦ among_right x read (keys_in_front (map Writes written) later) (before_writes x written later g.0 g.1)
    ])

-- a key is one of some keys
pub found_among : (x : Key) (keys : List Key) → list_any (same_key x) keys ≡ true → IsAmong x keys
found_among x [] e = absurd (cc)
found_among x (k ∷ keys) e = by (same_key x k) refl e (found_among x keys)
  where
    by : (b : Bool) → same_key x k ≡ b → (b || list_any (same_key x) keys) ≡ true → (list_any (same_key x) keys ≡ true → IsAmong x keys) → IsAmong x (k ∷ keys)
    by true f g rest = inl (equal_keys x k f)
    by false f g rest = inr (rest g)

same_itself : (x : Key) → same_key x x ≡ true
same_itself x = by (same_key x x) refl
  where
    by : (b : Bool) → same_key x x ≡ b → b ≡ true
    by true e = refl
    by false e = absurd (not_other x e)

pub same_found : (x key : Key) → x ≡ key → same_key x key ≡ true
same_found x key same = ap (λ (k : Key). same_key x k) (sym same) ∙ same_itself x

pub any_found : (x : Key) (keys : List Key) → IsAmong x keys → list_any (same_key x) keys ≡ true
any_found x [] h = absurd h
any_found x (k ∷ keys) (inl same) = ap (λ (b : Bool). b || list_any (same_key x) keys) (same_found x k same)
any_found x (k ∷ keys) (inr h) = by (same_key x k) (any_found x keys h)
  where
    by : (b : Bool) → list_any (same_key x) keys ≡ true → (b || list_any (same_key x) keys) ≡ true
    by true e = refl
    by false e = e
