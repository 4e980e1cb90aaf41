-- The variables that hold in a draft.
use Rattle.std.proofs.Common.{◌≡◌, ◌≢◌, ◌<◌, ◌≤◌, ◌+◌, ℕ, zero, suc, eqb, length, take, arith, Bool, true, false, cond, inl, inr, ◌⊎◌, List, [], ◌∷◌, ◌++◌, Option, None, Some, refl, sym, ap, ap₂, map, subst, ◌∙◌, add-one}
use Rattle.std.specs.Prelude.{slice_get, slice_set as set}
use Rattle.std.proofs.lemmas.Bool.{false≢true, cases_Bool}
use Rattle.std.proofs.lemmas.List.{append-nil}
use Rattle.std.specs.Option.{option_eq}
use Rattle.std.proofs.lemmas.Bool.Decides.{nat_tests}
use Rattle.std.specs.Cmp.Lexicographic.{bytes_decides, nat_list_eq_equiv}
use Rattle.std.specs.List.{AllByRecursion}
use Rattle.std.specs.BTreeMap.{insert_entry}
use Rattle.std.specs.Borrow.{Bor}
use Rattle.std.specs.Map.{lookup}
use Rattle.std.specs.Ordering.{is_eq, match_ordering, nat_cmp}
use Rattle.std.specs.declared.cmp.Ordering.{Ordering}
use Rattle.std.specs.declared.cmp.Ordering.TheVariants.{Less, Equal, Greater}
use Rattle.std.specs.Cmp.Lexicographic.{slice_cmp}
use Rattle.std.proofs.lemmas.Map.Text.{is_eq-slice_cmp}
use Rattle.std.proofs.lemmas.List.{length-map, map-append, map-set}
use Rattle.envimage.specs.Entries.{pair_at}
use Rattle.envimage.specs.Data.{Pair, IsVariable}
use Rattle.envtools.specs.Environment.{value_of, dropped, put, assigned, same, HasDistinctNames, IsEnvironment}
use Rattle.envtools.specs.Drafting.{place_in, place_of, is_place, held, IsMoved, IsNamed, IsDraft}
use Rattle.envtools.proofs.EnvLemmas.{IsEnvironment-assigned, IsEnvironment-dropped, IsEnvironment-put}
use Rattle.envtools.proofs.EnvOf.{all-at, take-next}

abbrev Slice : Type 0
Slice = Bor (List ℕ)

-- the map's test of a name
pub found-same : (entries : List (Slice × Option ℕ)) (name : List ℕ)
    → lookup (λ (key : Slice). is_eq (slice_cmp nat_cmp name key.now)) entries ≡ lookup (λ (key : Slice). same name key.now) entries
found-same [] name = refl
found-same (e ∷ es) name = ap₂ (λ b rest. cond b (Some e.1) rest) (is_eq-slice_cmp name e.0.now) (found-same es name)

-- a name is given a place in the map
pub place_of-insert : (entries : List (Slice × Option ℕ)) (key : Slice) (place : Option ℕ) (n : List ℕ)
    → place_of (insert_entry (λ a b. slice_cmp nat_cmp a.now b.now) entries key place) n ≡ cond (same n key.now) place (place_of entries n)
place_of-insert [] key place n = by (same n key.now)
  where
    by : (b : Bool) → place_in (cond b (Some place) None) ≡ cond b place None
    by true = refl
    by false = refl
place_of-insert (e ∷ es) key place n = at (place_of-insert es key place n) (slice_cmp nat_cmp key.now e.0.now) refl
  where
    before : (b : Bool) (rest : Option (Option ℕ)) → place_in (cond b (Some place) rest) ≡ cond b place (place_in rest)
    before true rest = refl
    before false rest = refl

    at : place_of (insert_entry (λ a b. slice_cmp nat_cmp a.now b.now) es key place) n ≡ cond (same n key.now) place (place_of es n)
        → (r : Ordering) → slice_cmp nat_cmp key.now e.0.now ≡ r
        → place_of (match_ordering r ((key, place) ∷ e ∷ es) ((e.0, place) ∷ es) (e ∷ insert_entry (λ a b. slice_cmp nat_cmp a.now b.now) es key place)) n ≡ cond (same n key.now) place (place_of (e ∷ es) n)
    at rest Less is = before (same n key.now) (lookup (λ (k : Slice). same n k.now) (e ∷ es))
    at rest Equal is =
        let one : key.now ≡ e.0.now = (bytes_decides key.now e.0.now).0 (sym (is_eq-slice_cmp key.now e.0.now) ∙ ap is_eq is) in
        elim (cases_Bool (same n e.0.now)) [
          | inl this ↦ rw (one, this) refl
          | inr other ↦ rw (one, other) refl
        ]
    at rest Greater is =
        let apart : same key.now e.0.now ≡ false = sym (is_eq-slice_cmp key.now e.0.now) ∙ ap is_eq is in
        elim (cases_Bool (same n e.0.now)) [
          | inl this ↦
              let two : same n key.now ≡ false =
              ap (λ m. same m key.now) ((bytes_decides n e.0.now).0 this) ∙ (nat_list_eq_equiv.symm e.0.now key.now ∙ apart) in
              rw (this, two) refl
          | inr other ↦ rw other rest
        ]

not-there : (m k : ℕ) → k < m → eqb m k ≡ false
not-there m k below = grind (arith, nat_tests)

there : (m : ℕ) → eqb m m ≡ true
there m = grind (arith, nat_tests)

-- a variable that holds at one place has a different name from one that holds at another
apart-from : (f : List ℕ → Option ℕ) (name other : List ℕ) (i at : ℕ) → f name ≡ Some i → eqb i at ≡ false → is_place (f other) at ≡ true → same name other ≡ false
apart-from f name other i at placed ne holds =
    elim (cases_Bool (same name other)) [
      | inl this ↦
          let one : f other ≡ Some i = ap f (sym ((bytes_decides name other).0 this)) ∙ placed in
          absurd (false≢true (sym ne ∙ (sym (ap (λ o. is_place o at) one) ∙ holds)))
      | inr apart ↦ apart
    ]

-- ---- one name's place changes

held-changed : (f g : List ℕ → Option ℕ) (name : List ℕ) (end : ℕ)
    → ((n : List ℕ) → same name n ≡ true → (k : ℕ) → k < end → is_place (g n) k ≡ false)
    → ((n : List ℕ) → same name n ≡ false → g n ≡ f n)
    → (at : ℕ) (ps : List Pair) → at + length ps ≤ end → held g at ps ≡ dropped (held f at ps) name
held-changed f g name end moved kept at [] within = refl
held-changed f g name end moved kept at (p ∷ ps) within =
    let rest = held-changed f g name end moved kept (suc at) ps (omega arith) in
    elim (cases_Bool (same name p.0)) [
      | inl found ↦
          let gone : is_place (g p.0) at ≡ false = moved p.0 found at (omega arith) in
          elim (cases_Bool (is_place (f p.0) at)) [
            | inl held ↦ rw (gone, held, found) rest
            | inr stale ↦ rw (gone, stale) rest
          ]
      | inr other ↦
          let one : is_place (g p.0) at ≡ is_place (f p.0) at = ap (λ o. is_place o at) (kept p.0 other) in
          elim (cases_Bool (is_place (f p.0) at)) [
            | inl held ↦ rw (one, held, other) (ap (λ t. p ∷ t) rest)
            | inr stale ↦ rw (one, stale) rest
          ]
    ]

held-push : (f : List ℕ → Option ℕ) (at : ℕ) (ps : List Pair) (p : Pair)
    → held f at (ps ++ p ∷ []) ≡ held f at ps ++ cond (is_place (f p.0) (at + length ps)) (p ∷ []) []
held-push f at [] p =
    let here : at + 0 ≡ at = omega arith in
    rw here refl
held-push f at (q ∷ qs) p =
    let here : at + suc (length qs) ≡ suc at + length qs = omega arith in
    let rest = held-push f (suc at) qs p in
    elim (cases_Bool (is_place (f q.0) at)) [
      | inl held ↦ rw (here, held) (ap (λ t. q ∷ t) rest)
      | inr stale ↦ rw (here, stale) rest
    ]

held-pushed : (f : List ℕ → Option ℕ) (ps : List Pair) (p : Pair) → held f 0 (ps ++ p ∷ []) ≡ held f 0 ps ++ cond (is_place (f p.0) (length ps)) (p ∷ []) []
held-pushed f ps p =
    let n : 0 + length ps ≡ length ps = omega arith in
    held-push f 0 ps p ∙ ap (λ k. held f 0 ps ++ cond (is_place (f p.0) k) (p ∷ []) []) n

-- ---- the written variables

named-below : (name : List ℕ) (log : List Pair) (at : ℕ) → IsNamed name (slice_get log at) → at < length log
named-below name [] at h = absurd h
named-below name (p ∷ ps) zero h = omega arith
named-below name (p ∷ ps) (suc at) h = let rest = named-below name ps at h in omega arith

named-push : (name : List ℕ) (log : List Pair) (p : Pair) (at : ℕ) → IsNamed name (slice_get log at) → IsNamed name (slice_get (log ++ p ∷ []) at)
named-push name [] p at h = absurd h
named-push name (q ∷ qs) p zero h = h
named-push name (q ∷ qs) p (suc at) h = named-push name qs p at h

named-last : (name : List ℕ) (log : List Pair) (p : Pair) → same name p.0 ≡ true → IsNamed name (slice_get (log ++ p ∷ []) (length log))
named-last name [] p e = e
named-last name (q ∷ qs) p e = named-last name qs p e

-- the place of a name that stays
kept-place : (f g : List ℕ → Option ℕ) (name : List ℕ) (place : Option ℕ) → IsMoved f name place g → (n : List ℕ) → same name n ≡ false → g n ≡ f n
kept-place f g name place moved n other =
    moved n ∙ ap (λ b. cond b place (f n)) (nat_list_eq_equiv.symm n name ∙ other)

new-place : (f g : List ℕ → Option ℕ) (name : List ℕ) (place : Option ℕ) → IsMoved f name place g → (n : List ℕ) → same name n ≡ true → g n ≡ place
new-place f g name place moved n this =
    moved n ∙ ap (λ b. cond b place (f n)) (nat_list_eq_equiv.symm n name ∙ this)

-- a variable is deleted
pub held-removed : (f g : List ℕ → Option ℕ) (log : List Pair) (name : List ℕ) → IsMoved f name None g → held g 0 log ≡ dropped (held f 0 log) name
held-removed f g log name moved =
    held-changed f g name (length log) (λ n this k below. ap (λ o. is_place o k) (new-place f g name None moved n this)) (kept-place f g name None moved) 0 log (omega arith)

pub IsDraft-removed : (f g : List ℕ → Option ℕ) (log : List Pair) (name : List ℕ) → IsMoved f name None g → IsDraft f log → IsDraft g log
IsDraft-removed f g log name moved d = record {
  placed = λ n at e. by n at e (cases_Bool (same name n));
  sound = subst (λ ps. IsEnvironment ps) (sym (held-removed f g log name moved)) (IsEnvironment-dropped (held f 0 log) name d.sound);
}
  where
    by : (n : List ℕ) (at : ℕ) → g n ≡ Some at → (same name n ≡ true) ⊎ (same name n ≡ false) → IsNamed n (slice_get log at)
    by n at e (inl this) = let none : None ≡ Some at = sym (new-place f g name None moved n this) ∙ e in cc
    by n at e (inr other) = d.placed n at (sym (kept-place f g name None moved n other) ∙ e)

-- a variable is written last
pub held-put : (f g : List ℕ → Option ℕ) (log : List Pair) (name value : List ℕ) → IsMoved f name (Some (length log)) g → held g 0 (log ++ (name, value) ∷ []) ≡ put (held f 0 log) name value
held-put f g log name value moved =
    let here : is_place (g name) (length log) ≡ true =
    ap (λ o. is_place o (length log)) (new-place f g name (Some (length log)) moved name ((bytes_decides name name).1 refl)) ∙ there (length log) in
    let before : held g 0 log ≡ dropped (held f 0 log) name =
    held-changed f g name (length log) (λ n this k below. ap (λ o. is_place o k) (new-place f g name (Some (length log)) moved n this) ∙ not-there (length log) k below)
    (kept-place f g name (Some (length log)) moved) 0 log (omega arith) in
    held-pushed g log (name, value) ∙ rw (here, before) refl

pub IsDraft-put : (f g : List ℕ → Option ℕ) (log : List Pair) (name value : List ℕ) → IsMoved f name (Some (length log)) g → IsVariable (name, value) → IsDraft f log → IsDraft g (log ++ (name, value) ∷ [])
IsDraft-put f g log name value moved v d = record {
  placed = λ n at e. by n at e (cases_Bool (same name n));
  sound = subst (λ ps. IsEnvironment ps) (sym (held-put f g log name value moved)) (IsEnvironment-put (held f 0 log) name value v d.sound);
}
  where
    by : (n : List ℕ) (at : ℕ) → g n ≡ Some at → (same name n ≡ true) ⊎ (same name n ≡ false) → IsNamed n (slice_get (log ++ (name, value) ∷ []) at)
    by n at e (inl this) =
        let last : length log ≡ at = cc (new-place f g name (Some (length log)) moved n this, e) in
        subst (λ i. IsNamed n (slice_get (log ++ (name, value) ∷ []) i)) last (named-last n log (name, value) (nat_list_eq_equiv.symm n name ∙ this))
    by n at e (inr other) = named-push n log (name, value) at (d.placed n at (sym (kept-place f g name (Some (length log)) moved n other) ∙ e))

-- ---- a variable gets another value in its place

held-set : (f : List ℕ → Option ℕ) (name value : List ℕ) (i : ℕ) → f name ≡ Some i
    → (at k : ℕ) (ps : List Pair) → i ≡ at + k → IsNamed name (slice_get ps k) → held f at (set ps k (name, value)) ≡ assigned (held f at ps) name value
held-set f name value i placed at k [] e this = absurd this
held-set f name value i placed at zero (p ∷ ps) e this =
    let here : i ≡ at = omega arith in
    let one : name ≡ p.0 = (bytes_decides name p.0).0 this in
    let is : is_place (f name) at ≡ true = ap (λ o. is_place o at) placed ∙ (ap (λ j. eqb j at) here ∙ there at) in
    let was : is_place (f p.0) at ≡ true = ap (λ n. is_place (f n) at) (sym one) ∙ is in
    rw (is, was, this) (ap (λ n. (n, value) ∷ held f (suc at) ps) one)
held-set f name value i placed at (suc k) (p ∷ ps) e this =
    let rest = held-set f name value i placed (suc at) k ps (omega arith) this in
    elim (cases_Bool (is_place (f p.0) at)) [
      | inl holds ↦
          let other : same name p.0 ≡ false = apart-from f name p.0 i at placed (not-there i at (omega arith)) holds in
          rw (holds, other) (ap (λ t. p ∷ t) rest)
      | inr stale ↦ rw stale rest
    ]

named-set : (n name value : List ℕ) (log : List Pair) (i at : ℕ) → IsNamed name (slice_get log i) → IsNamed n (slice_get log at) → IsNamed n (slice_get (set log i (name, value)) at)
named-set n name value [] i at this h = h
named-set n name value (p ∷ ps) zero zero this h = ap (same n) ((bytes_decides name p.0).0 this) ∙ h
named-set n name value (p ∷ ps) zero (suc at) this h = h
named-set n name value (p ∷ ps) (suc i) zero this h = h
named-set n name value (p ∷ ps) (suc i) (suc at) this h = named-set n name value ps i at this h

module _ (f : List ℕ → Option ℕ) (items : List (Slice × Slice)) (name value : Slice) (i : ℕ) (d : IsDraft f (map pair_at items)) (placed : f name.now ≡ Some i) where
  pub assigned-written : held f 0 (map pair_at (set items i (name, value))) ≡ assigned (held f 0 (map pair_at items)) name.now value.now
  assigned-written = ap (held f 0) (map-set pair_at items i (name, value)) ∙ held-set f name.now value.now i placed 0 i (map pair_at items) (omega arith) (d.placed name.now i placed)

  pub IsDraft-assigned : IsVariable (name.now, value.now) → IsDraft f (map pair_at (set items i (name, value)))
  IsDraft-assigned v = record {
    placed = λ n at e. subst (λ (log : List Pair). IsNamed n (slice_get log at)) (sym (map-set pair_at items i (name, value)))
        (named-set n name.now value.now (map pair_at items) i at (d.placed name.now i placed) (d.placed n at e));
    sound = subst (λ ps. IsEnvironment ps) (sym assigned-written) (IsEnvironment-assigned (held f 0 (map pair_at items)) name.now value.now v d.sound);
  }

pub place-there : (f : List ℕ → Option ℕ) (items : List (Slice × Slice)) (name : List ℕ) (i : ℕ) → IsDraft f (map pair_at items) → f name ≡ Some i → i < length items
place-there f items name i d placed =
    let within = named-below name (map pair_at items) i (d.placed name i placed) in
    let len = length-map items pair_at in
    omega (arith, within, len)

-- the same for what the fields hold
module _ (f g : List ℕ → Option ℕ) (items new : List (Slice × Slice)) (name value : Slice) (last : ℕ)
    (at : last ≡ length items) (pushed : new ≡ items ++ (name, value) ∷ []) (moved : IsMoved f name.now (Some last) g) where
  written : map pair_at new ≡ map pair_at items ++ (name.now, value.now) ∷ []
  written = ap (map pair_at) pushed ∙ map-append pair_at items ((name, value) ∷ [])

  placed-last : IsMoved f name.now (Some (length (map pair_at items))) g
  placed-last = subst (λ n. IsMoved f name.now (Some n) g) (at ∙ sym (length-map items pair_at)) moved

  pub put-written : held g 0 (map pair_at new) ≡ put (held f 0 (map pair_at items)) name.now value.now
  put-written = ap (held g 0) written ∙ held-put f g (map pair_at items) name.now value.now placed-last

  pub IsDraft-written : IsVariable (name.now, value.now) → IsDraft f (map pair_at items) → IsDraft g (map pair_at new)
  IsDraft-written v d = subst (λ log. IsDraft g log) (sym written) (IsDraft-put f g (map pair_at items) name.now value.now placed-last v d)

-- ---- the value of a name

pub value-none : (f : List ℕ → Option ℕ) (name : List ℕ) → f name ≡ None → (at : ℕ) (ps : List Pair) → value_of (held f at ps) name ≡ None
value-none f name none at [] = refl
value-none f name none at (p ∷ ps) =
    let rest = value-none f name none (suc at) ps in
    elim (cases_Bool (is_place (f p.0) at)) [
      | inl held ↦
          elim (cases_Bool (same name p.0)) [
            | inl this ↦
                let gone : f p.0 ≡ None = ap f (sym ((bytes_decides name p.0).0 this)) ∙ none in
                absurd (false≢true (sym (ap (λ o. is_place o at) gone) ∙ held))
            | inr other ↦ rw (held, other) rest
          ]
      | inr stale ↦ rw stale rest
    ]

value-some : (f : List ℕ → Option ℕ) (name : List ℕ) (i : ℕ) (p : Pair) → f name ≡ Some i → same name p.0 ≡ true
    → (at k : ℕ) (ps : List Pair) → i ≡ at + k → slice_get ps k ≡ Some p → value_of (held f at ps) name ≡ Some p.1
value-some f name i p placed this at k [] e found = cc
value-some f name i p placed this at zero (q ∷ qs) e found =
    let one : q ≡ p = cc in
    let two : same name q.0 ≡ true = ap (λ r. same name r.0) one ∙ this in
    let holds : f q.0 ≡ Some i = ap f (sym ((bytes_decides name q.0).0 two)) ∙ placed in
    let here : i ≡ at = omega arith in
    let is : is_place (f q.0) at ≡ true = ap (λ o. is_place o at) holds ∙ (ap (λ j. eqb j at) here ∙ there at) in
    rw (is, two) (ap (λ r. Some r.1) one)
value-some f name i p placed this at (suc k) (q ∷ qs) e found =
    let rest = value-some f name i p placed this (suc at) k qs (omega arith) found in
    elim (cases_Bool (is_place (f q.0) at)) [
      | inl held ↦ rw (held, apart-from f name q.0 i at placed (not-there i at (omega arith)) held) rest
      | inr stale ↦ rw stale rest
    ]

-- a name that is not there goes last
pub assigned-absent : (ps : List Pair) (name value : List ℕ) → value_of ps name ≡ None → assigned ps name value ≡ put ps name value
assigned-absent [] name value none = refl
assigned-absent (p ∷ ps) name value none =
    elim (cases_Bool (same name p.0)) [
      | inl found ↦ let some : Some p.1 ≡ None = rw found at none in cc
      | inr other ↦ let rest : value_of ps name ≡ None = rw other at none in rw other (ap (λ t. p ∷ t) (assigned-absent ps name value rest))
    ]

-- what is written at the place of a name
pub value-found : (f : List ℕ → Option ℕ) (log : List Pair) (name : List ℕ) (i : ℕ) (p : Pair) → IsDraft f log → f name ≡ Some i → slice_get log i ≡ Some p → value_of (held f 0 log) name ≡ Some p.1
value-found f log name i p d placed found =
    value-some f name i p placed (subst (λ o. IsNamed name o) found (d.placed name i placed)) 0 i log (omega arith) found

-- ---- a draft of an environment

put-suc : (ps : List Pair) (at : ℕ) (p : Pair) → HasDistinctNames ps → slice_get ps at ≡ Some p → put (take at ps) p.0 p.1 ≡ take (suc at) ps
put-suc [] at p d e = cc
put-suc (q ∷ qs) zero p d e = let one : p ≡ q = cc in ap (λ r. r ∷ []) one
put-suc (q ∷ qs) (suc at) p d e =
    let apart : same q.0 p.0 ≡ false = all-at (λ r. same q.0 r.0 ≡ false) qs at p d.0 e in
    rw (nat_list_eq_equiv.symm p.0 q.0 ∙ apart) (ap (λ t. q ∷ t) (put-suc qs at p d.1 e))

pub put-next : (ps : List Pair) (at : ℕ) (p : Pair) → HasDistinctNames ps → slice_get ps at ≡ Some p → put (take at ps) p.0 p.1 ≡ take (at + 1) ps
put-next ps at p d e = rw add-one (put-suc ps at p d e)

-- the test of a place
pub place-found : (o : Option ℕ) (at : ℕ) → option_eq eqb o (Some at) ≡ true → o ≡ Some at
place-found None at e = absurd (false≢true e)
place-found (Some k) at e = let one : k ≡ at = grind (arith, nat_tests) in ap Some one

pub place-other : (o : Option ℕ) (at : ℕ) → option_eq eqb o (Some at) ≡ false → o ≢ Some at
place-other o at e one = false≢true (sym e ∙ (ap (λ p. option_eq eqb p (Some at)) one ∙ there at))

pub IsVariable-at : (ps : List Pair) (at : ℕ) (p : Pair) → AllByRecursion IsVariable ps → slice_get ps at ≡ Some p → IsVariable p
IsVariable-at ps at p all e = all-at IsVariable ps at p all e

-- ---- the variables that hold

length-front : (at : ℕ) (log : List Pair) (p : Pair) → slice_get log at ≡ Some p → length (take at log) ≡ at
length-front at [] p e = cc
length-front zero (q ∷ qs) p e = refl
length-front (suc at) (q ∷ qs) p e = ap suc (length-front at qs p e)

held-front : (f : List ℕ → Option ℕ) (log : List Pair) (at : ℕ) (p : Pair) → slice_get log at ≡ Some p → held f 0 (take (at + 1) log) ≡ held f 0 (take at log) ++ cond (is_place (f p.0) at) (p ∷ []) []
held-front f log at p e =
    ap (held f 0) (take-next log at p e) ∙ (held-pushed f (take at log) p ∙ ap (λ n. held f 0 (take at log) ++ cond (is_place (f p.0) n) (p ∷ []) []) (length-front at log p e))

-- a variable that does not hold adds nothing
pub held-stale : (f : List ℕ → Option ℕ) (log : List Pair) (at : ℕ) (p : Pair) → slice_get log at ≡ Some p → f p.0 ≢ Some at → held f 0 (take at log) ≡ held f 0 (take (at + 1) log)
held-stale f log at p e stale =
    let other : is_place (f p.0) at ≡ false = by (f p.0) stale in
    sym (held-front f log at p e ∙ (ap (λ b. held f 0 (take at log) ++ cond b (p ∷ []) []) other ∙ append-nil (held f 0 (take at log))))
  where
    by : (o : Option ℕ) → o ≢ Some at → is_place o at ≡ false
    by None ne = refl
    by (Some k) ne =
        elim (cases_Bool (eqb k at)) [
          | inl one ↦ let same : k ≡ at = grind (arith, nat_tests) in absurd (ne (ap Some same))
          | inr other ↦ other
        ]

-- a variable that holds goes last
pub held-next : (f : List ℕ → Option ℕ) (log : List Pair) (at : ℕ) (p : Pair) → slice_get log at ≡ Some p → f p.0 ≡ Some at → held f 0 (take at log) ++ p ∷ [] ≡ held f 0 (take (at + 1) log)
held-next f log at p e holds =
    let here : is_place (f p.0) at ≡ true = ap (λ o. is_place o at) holds ∙ there at in
    sym (held-front f log at p e ∙ ap (λ b. held f 0 (take at log) ++ cond b (p ∷ []) []) here)
