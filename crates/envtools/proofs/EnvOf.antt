-- The environment of a list of pairs, made by adding one pair after another.
use Rattle.std.proofs.Common.{◌≡◌, ℕ, zero, suc, ◌+◌, take, add-one, length, length-append, arith, true, false, cond, fold, inl, inr, List, [], ◌∷◌, ◌++◌, Option, None, Some, refl, sym, ap, subst, ◌∙◌, append_assoc}
use Rattle.std.specs.Prelude.{unwrap_or, slice_get}
use Rattle.std.specs.List.{AllByRecursion, flat_map}
use Rattle.std.proofs.lemmas.List.{append-nil}
use Rattle.std.proofs.lemmas.Bool.{cases_Bool}
use Rattle.std.specs.Cmp.Lexicographic.{bytes_decides, nat_list_eq_equiv}
use Rattle.std.proofs.lemmas.Option.{none-some}
use Rattle.envimage.specs.Data.{Pair, entry}
use Rattle.envtools.specs.Environment.{value_of, dropped, assigned, env_of, same, HasDistinctNames}

itself : (name : List ℕ) → same name name ≡ true
itself name = (bytes_decides name name).1 refl

-- two equal names differ from the same names
same-other : (a b c : List ℕ) → same a b ≡ true → same a c ≡ false → same c b ≡ false
same-other a b c e ne = ap (λ n. same c n) (sym ((bytes_decides a b).0 e)) ∙ (nat_list_eq_equiv.symm c a ∙ ne)

value_of-assigned : (ps : List Pair) (name value : List ℕ) → value_of (assigned ps name value) name ≡ Some value
value_of-assigned [] name value = rw (itself name) refl
value_of-assigned (p ∷ ps) name value =
    elim (cases_Bool (same name p.0)) [
      | inl found ↦ rw (found, found) refl
      | inr other ↦ rw (other, other) (value_of-assigned ps name value)
    ]

value_of-assigned_other : (ps : List Pair) (name value other : List ℕ) → same name other ≡ false → value_of (assigned ps name value) other ≡ value_of ps other
value_of-assigned_other [] name value other ne = rw (nat_list_eq_equiv.symm other name ∙ ne) refl
value_of-assigned_other (p ∷ ps) name value other ne =
    elim (cases_Bool (same name p.0)) [
      | inl found ↦ rw (found, same-other name p.0 other found ne) refl
      | inr apart ↦ rw apart (ap (λ t. cond (same other p.0) (Some p.1) t) (value_of-assigned_other ps name value other ne))
    ]

dropped-assigned : (ps : List Pair) (name value : List ℕ) → dropped (assigned ps name value) name ≡ dropped ps name
dropped-assigned [] name value = rw (itself name) refl
dropped-assigned (p ∷ ps) name value =
    elim (cases_Bool (same name p.0)) [
      | inl found ↦ rw (found, found) refl
      | inr other ↦ rw (other, other) (ap (λ t. p ∷ t) (dropped-assigned ps name value))
    ]

dropped-assigned_other : (ps : List Pair) (name value other : List ℕ) → same name other ≡ false → dropped (assigned ps name value) other ≡ assigned (dropped ps other) name value
dropped-assigned_other [] name value other ne = rw (nat_list_eq_equiv.symm other name ∙ ne) refl
dropped-assigned_other (p ∷ ps) name value other ne =
    elim (cases_Bool (same name p.0)) [
      | inl found ↦ rw (found, same-other name p.0 other found ne, found) refl
      | inr apart ↦ elim (cases_Bool (same other p.0)) [
        | inl it ↦ rw (apart, it) (dropped-assigned_other ps name value other ne)
        | inr kept ↦ rw (apart, kept, apart) (ap (λ t. p ∷ t) (dropped-assigned_other ps name value other ne))
      ]
    ]

-- a first variable, before the others as they become
abbrev pub in_front : Pair → List Pair → List Pair
in_front p later = (p.0, unwrap_or (value_of later p.0) p.1) ∷ dropped later p.0

in_front-assigned : (p q : Pair) (later : List Pair) → in_front p (assigned later q.0 q.1) ≡ assigned (in_front p later) q.0 q.1
in_front-assigned p q later =
    elim (cases_Bool (same q.0 p.0)) [
      | inl found ↦
          let one : q.0 ≡ p.0 = (bytes_decides q.0 p.0).0 found in
          let value : value_of (assigned later q.0 q.1) p.0 ≡ Some q.1 =
          ap (λ n. value_of (assigned later q.0 q.1) n) (sym one) ∙ value_of-assigned later q.0 q.1 in
          let rest : dropped (assigned later q.0 q.1) p.0 ≡ dropped later p.0 =
          ap (λ n. dropped (assigned later q.0 q.1) n) (sym one) ∙ (dropped-assigned later q.0 q.1 ∙ ap (dropped later) one) in
          rw (found, value) (ap (λ t. (p.0, q.1) ∷ t) rest)
      | inr apart ↦
          rw (apart, value_of-assigned_other later q.0 q.1 p.0 apart)
          (ap (λ t. (p.0, unwrap_or (value_of later p.0) p.1) ∷ t) (dropped-assigned_other later q.0 q.1 p.0 apart))
    ]

-- one pair more at the end
pub env_of-snoc : (ps : List Pair) (q : Pair) → env_of (ps ++ q ∷ []) ≡ assigned (env_of ps) q.0 q.1
env_of-snoc [] q = refl
env_of-snoc (p ∷ ps) q = ap (in_front p) (env_of-snoc ps q) ∙ in_front-assigned p q (env_of ps)

fold-more : (done left : List Pair) → fold (λ env p. assigned env p.0 p.1) (env_of done) left ≡ env_of (done ++ left)
fold-more done [] = ap env_of (sym (append-nil done))
fold-more done (p ∷ left) =
    ap (λ env. fold (λ env p. assigned env p.0 p.1) env left) (sym (env_of-snoc done p))
    ∙ (fold-more (done ++ p ∷ []) left ∙ ap env_of (append_assoc done (p ∷ []) left))

pub fold-assigned : (pairs : List Pair) → fold (λ env p. assigned env p.0 p.1) [] pairs ≡ env_of pairs
fold-assigned pairs = fold-more [] pairs

-- ---- one name, read from all the pairs

-- a pair of this name gives its value, and any other pair keeps what was found before
abbrev pub last_value : List ℕ → Option (List ℕ) → Pair → Option (List ℕ)
last_value name found p = cond (same name p.0) (Some p.1) found

last_value-assigned : (name : List ℕ) (env : List Pair) (p : Pair) → last_value name (value_of env name) p ≡ value_of (assigned env p.0 p.1) name
last_value-assigned name env p =
    elim (cases_Bool (same name p.0)) [
      | inl found ↦
          let one : name ≡ p.0 = (bytes_decides name p.0).0 found in
          let it : value_of (assigned env p.0 p.1) name ≡ Some p.1 =
          ap (λ n. value_of (assigned env p.0 p.1) n) one ∙ value_of-assigned env p.0 p.1 in
          rw found (sym it)
      | inr other ↦ rw other (sym (value_of-assigned_other env p.0 p.1 name (nat_list_eq_equiv.symm p.0 name ∙ other)))
    ]

last_value-more : (name : List ℕ) (env left : List Pair) → fold (last_value name) (value_of env name) left ≡ value_of (fold (λ env p. assigned env p.0 p.1) env left) name
last_value-more name env [] = refl
last_value-more name env (p ∷ left) =
    ap (λ found. fold (last_value name) found left) (last_value-assigned name env p) ∙ last_value-more name (assigned env p.0 p.1) left

pub fold-last_value : (name : List ℕ) (pairs : List Pair) → fold (last_value name) None pairs ≡ value_of (env_of pairs) name
fold-last_value name pairs = last_value-more name [] pairs ∙ ap (λ env. value_of env name) (fold-assigned pairs)

-- ---- a copy of an environment

pub all-at : (P : Pair → Type 0) (ps : List Pair) (at : ℕ) (p : Pair) → AllByRecursion P ps → slice_get ps at ≡ Some p → P p
all-at P [] at p all e = absurd (none-some p e)
all-at P (q ∷ qs) zero p all e = let one : q ≡ p = cc in subst P one all.0
all-at P (q ∷ qs) (suc at) p all e = all-at P qs at p all.1 e

assigned-suc : (ps : List Pair) (at : ℕ) (p : Pair) → HasDistinctNames ps → slice_get ps at ≡ Some p → assigned (take at ps) p.0 p.1 ≡ take (suc at) ps
assigned-suc [] at p d e = cc
assigned-suc (q ∷ qs) zero p d e = let one : p ≡ q = cc in ap (λ r. r ∷ []) one
assigned-suc (q ∷ qs) (suc at) p d e =
    let apart : same q.0 p.0 ≡ false = all-at (λ r. same q.0 r.0 ≡ false) qs at p d.0 e in
    rw (nat_list_eq_equiv.symm p.0 q.0 ∙ apart) (ap (λ t. q ∷ t) (assigned-suc qs at p d.1 e))

-- the variable at a place is new to those before it
pub assigned-next : (ps : List Pair) (at : ℕ) (p : Pair) → HasDistinctNames ps → slice_get ps at ≡ Some p → assigned (take at ps) p.0 p.1 ≡ take (at + 1) ps
assigned-next ps at p d e = rw add-one (assigned-suc ps at p d e)

-- ---- the variables one after another

take-suc : (ps : List Pair) (at : ℕ) (p : Pair) → slice_get ps at ≡ Some p → take (suc at) ps ≡ take at ps ++ p ∷ []
take-suc [] at p e = cc
take-suc (q ∷ qs) zero p e = let one : q ≡ p = cc in ap (λ r. r ∷ []) one
take-suc (q ∷ qs) (suc at) p e = ap (λ t. q ∷ t) (take-suc qs at p e)

pub take-next : (ps : List Pair) (at : ℕ) (p : Pair) → slice_get ps at ≡ Some p → take (at + 1) ps ≡ take at ps ++ p ∷ []
take-next ps at p e = rw add-one (take-suc ps at p e)

length-entry : (p : Pair) → length (entry p) ≡ length p.0 + length p.1 + 2
length-entry p =
    ap length (append_assoc p.0 (61 ∷ p.1) (0 ∷ [])) ∙ (length-append p.0 ((61 ∷ p.1) ++ 0 ∷ []) ∙ omega (arith, length-append (61 ∷ p.1) (0 ∷ [])))

flat_map-snoc : (ps : List Pair) (p : Pair) → length (flat_map entry (ps ++ p ∷ [])) ≡ length (flat_map entry ps) + length (entry p)
flat_map-snoc [] p = omega (arith, ap length (append-nil (entry p)))
flat_map-snoc (q ∷ qs) p =
    length-append (entry q) (flat_map entry (qs ++ p ∷ [])) ∙ omega (arith, flat_map-snoc qs p, length-append (entry q) (flat_map entry qs))

pub entries-next : (ps : List Pair) (at : ℕ) (p : Pair) → slice_get ps at ≡ Some p
    → length (flat_map entry (take (at + 1) ps)) ≡ length (flat_map entry (take at ps)) + (length p.0 + length p.1 + 2)
entries-next ps at p e =
    ap (λ t. length (flat_map entry t)) (take-next ps at p e) ∙ (flat_map-snoc (take at ps) p ∙ ap (λ n. length (flat_map entry (take at ps)) + n) (length-entry p))
