-- The variables of an image's data as a list.
use Rattle.std.proofs.Common.{◌≡◌, ℕ, zero, suc, ◌+◌, ◌<◌, length, get_or, take, map, arith, true, false, fold, not, inl, inr, List, [], ◌∷◌, ◌++◌, None, Some, refl, sym, ap, subst, ◌∙◌}
use Rattle.std.specs.Prelude.{unwrap_or, slice_get}
use Rattle.std.specs.Borrow.{Bor}
use Rattle.std.specs.Prelude.{Result, Ok, Err, OnOk, OnErr}
use Rattle.std.specs.declared.alloc.AllocError.{AllocError}
use Rattle.envimage.specs.Entries.{pair_at}
use Rattle.std.proofs.lemmas.Option.{none-some}
use Rattle.std.specs.declared.cmp.Ordering.TheVariants.{Less, Greater}
use Rattle.std.specs.Ordering.{ordering_reverse, nat_cmp}
use Rattle.std.specs.Cmp.Lexicographic.{slice_cmp, bytes_decides, nat_list_eq_equiv, nat_list_cmp_total}
use Rattle.std.proofs.lemmas.Bool.{cases_Bool, false≢true}
use Rattle.std.specs.List.{AllByRecursion, list_any, remove}
use Rattle.envimage.specs.Data.{Pair, IsVariable}
use Rattle.envtools.specs.Environment.{value_of, dropped, put, assigned, env_of, has_value, same, HasDistinctNames, IsEnvironment, is_name, is_value}
use Rattle.envtools.proofs.EnvLemmas.{IsEnvironment-assigned, IsEnvironment-put, IsVariable-tested, filter-none, others}
use Rattle.envtools.proofs.EnvOf.{fold-assigned, in_front, all-at, take-next}
use Rattle.envtools.specs.Listed.{AscendAfter, IsPlaceOf}

-- ---- names that ascend

apart : (a b : List ℕ) → slice_cmp nat_cmp a b ≡ Less → same a b ≡ false
apart a b e =
    elim (cases_Bool (same a b)) [
      | inl found ↦
          let one : a ≡ b = (bytes_decides a b).0 found in
          let itself : slice_cmp nat_cmp a a ≡ Less = ap (slice_cmp nat_cmp a) one ∙ e in
          let bad : Less ≡ Greater = sym itself ∙ (nat_list_cmp_total.antisymm a a ∙ ap ordering_reverse itself) in cc
      | inr other ↦ other
    ]

all-weaker : (P Q : Pair → Type 0) → ((p : Pair) → P p → Q p) → (ps : List Pair) → AllByRecursion P ps → AllByRecursion Q ps
all-weaker P Q f [] all = tt
all-weaker P Q f (p ∷ ps) all = (f p all.0, all-weaker P Q f ps all.1)

all-above : (last : List ℕ) (ps : List Pair) → AscendAfter last ps → AllByRecursion (λ q. slice_cmp nat_cmp last q.0 ≡ Less) ps
all-above last [] c = tt
all-above last (p ∷ ps) c =
    (c.0, all-weaker (λ q. slice_cmp nat_cmp p.0 q.0 ≡ Less) (λ q. slice_cmp nat_cmp last q.0 ≡ Less) (λ q. nat_list_cmp_total.trans last p.0 q.0 c.0) ps (all-above p.0 ps c.1))

-- names that ascend are distinct
pub ascend-distinct : (last : List ℕ) (ps : List Pair) → AscendAfter last ps → HasDistinctNames ps
ascend-distinct last [] c = tt
ascend-distinct last (p ∷ ps) c =
    (all-weaker (λ q. slice_cmp nat_cmp p.0 q.0 ≡ Less) (λ q. same p.0 q.0 ≡ false) (λ q. apart p.0 q.0) ps (all-above p.0 ps c.1), ascend-distinct p.0 ps c.1)

-- ---- a name that is not there, and one that is

value_of-absent : (name : List ℕ) (ps : List Pair) → AllByRecursion (λ q. same name q.0 ≡ false) ps → value_of ps name ≡ None
value_of-absent name [] all = refl
value_of-absent name (p ∷ ps) all = rw all.0 (value_of-absent name ps all.1)

dropped-absent : (name : List ℕ) (ps : List Pair) → AllByRecursion (λ q. same name q.0 ≡ false) ps → dropped ps name ≡ ps
dropped-absent name [] all = refl
dropped-absent name (p ∷ ps) all = rw all.0 (ap (λ t. p ∷ t) (dropped-absent name ps all.1))

all-absent : (name : List ℕ) (ps : List Pair) → list_any (λ p. same name p.0) ps ≡ false → AllByRecursion (λ q. same name q.0 ≡ false) ps
all-absent name [] e = tt
all-absent name (p ∷ ps) e =
    elim (cases_Bool (same name p.0)) [
      | inl found ↦ let bad : list_any (λ p. same name p.0) (p ∷ ps) ≡ true = rw found refl in absurd (false≢true (sym e ∙ bad))
      | inr other ↦ let rest : list_any (λ p. same name p.0) ps ≡ false = rw other at e in (other, all-absent name ps rest)
    ]

value-absent : (name : List ℕ) (ps : List Pair) → list_any (λ p. same name p.0) ps ≡ false → value_of ps name ≡ None
value-absent name ps e = value_of-absent name ps (all-absent name ps e)

pub none-dropped : (name : List ℕ) (ps : List Pair) → list_any (λ p. same name p.0) ps ≡ false → dropped ps name ≡ ps
none-dropped name ps e = dropped-absent name ps (all-absent name ps e)

other-name : (name : List ℕ) (p q : Pair) (ps : List Pair) (at : ℕ) → AllByRecursion (λ r. same p.0 r.0 ≡ false) ps → slice_get ps at ≡ Some q → same name q.0 ≡ true → same name p.0 ≡ false
other-name name p q ps at all is e =
    let one : name ≡ q.0 = (bytes_decides name q.0).0 e in
    ap (λ n. same n p.0) one ∙ (nat_list_eq_equiv.symm q.0 p.0 ∙ all-at (λ r. same p.0 r.0 ≡ false) ps at q all is)

dropped-at : (ps : List Pair) (name : List ℕ) (at : ℕ) (q : Pair) → HasDistinctNames ps → slice_get ps at ≡ Some q → same name q.0 ≡ true → dropped ps name ≡ remove ps at
dropped-at [] name at q distinct is e = absurd (none-some q is)
dropped-at (p ∷ ps) name zero q distinct is e =
    let one : p ≡ q = cc in
    let found : same name p.0 ≡ true = ap (λ (r : Pair). same name r.0) one ∙ e in
    rw found (filter-none (λ p. not (same name p.0)) ps (others name p.0 ps found distinct.0))
dropped-at (p ∷ ps) name (suc at) q distinct is e =
    rw (other-name name p q ps at distinct.0 is e) (ap (λ t. p ∷ t) (dropped-at ps name at q distinct.1 is e))

value-at : (ps : List Pair) (name : List ℕ) (at : ℕ) (q : Pair) → HasDistinctNames ps → slice_get ps at ≡ Some q → same name q.0 ≡ true → value_of ps name ≡ Some q.1
value-at [] name at q distinct is e = absurd (none-some q is)
value-at (p ∷ ps) name zero q distinct is e =
    let one : p ≡ q = cc in
    let found : same name p.0 ≡ true = ap (λ (r : Pair). same name r.0) one ∙ e in
    rw found (ap (λ (r : Pair). Some r.1) one)
value-at (p ∷ ps) name (suc at) q distinct is e =
    rw (other-name name p q ps at distinct.0 is e) (value-at ps name at q distinct.1 is e)

-- removing what is at the place of a name
pub removed-place : (ps : List Pair) (name : List ℕ) (at : ℕ) → HasDistinctNames ps → IsPlaceOf ps name (Some at) → remove ps at ≡ dropped ps name
removed-place ps name at distinct place = sym (dropped-at ps name at place.0 distinct place.1 place.2)

pub there : (ps : List Pair) (name : List ℕ) (at : ℕ) → IsPlaceOf ps name (Some at) → at < length ps
there [] name at place = absurd (none-some place.0 place.1)
there (p ∷ ps) name zero place = omega arith
there (p ∷ ps) name (suc at) place = omega (arith, there ps name at place)

-- the value at the place of a name
pub valued-place : (ps : List Pair) (name value : List ℕ) (at : ℕ) (q : Pair) → HasDistinctNames ps → IsPlaceOf ps name (Some at) → slice_get ps at ≡ Some q → has_value ps name value ≡ same q.1 value
valued-place ps name value at q distinct place is =
    let one : place.0 ≡ q = let both : Some place.0 ≡ Some q = sym place.1 ∙ is in cc in
    let found = value-at ps name at place.0 distinct place.1 place.2 in
    rw found (ap (λ (r : Pair). same r.1 value) one)

pub valueless-place : (ps : List Pair) (name value : List ℕ) → IsPlaceOf ps name None → has_value ps name value ≡ false
valueless-place ps name value e = let none = value-absent name ps e in rw none refl

remove-append : (ps : List Pair) (at : ℕ) (q : Pair) → at < length ps → remove (ps ++ q ∷ []) at ≡ remove ps at ++ q ∷ []
remove-append [] at q l = absurd (omega arith)
remove-append (p ∷ ps) zero q l = refl
remove-append (p ∷ ps) (suc at) q l = ap (λ t. p ∷ t) (remove-append ps at q (omega arith))

-- a variable that was put last, and the one of its name removed
pub put-place : (ps : List Pair) (name value : List ℕ) (at : ℕ) → HasDistinctNames ps → IsPlaceOf ps name (Some at) → remove (ps ++ (name, value) ∷ []) at ≡ put ps name value
put-place ps name value at distinct place =
    remove-append ps at (name, value) (there ps name at place)
    ∙ ap (λ t. t ++ (name, value) ∷ []) (removed-place ps name at distinct place)

pub put-absent : (ps : List Pair) (name value : List ℕ) → IsPlaceOf ps name None → ps ++ (name, value) ∷ [] ≡ put ps name value
put-absent ps name value e = ap (λ t. t ++ (name, value) ∷ []) (sym (none-dropped name ps e))

any-snoc : (name : List ℕ) (ps : List Pair) (q : Pair) → list_any (λ p. same name p.0) ps ≡ false → same name q.0 ≡ false → list_any (λ p. same name p.0) (ps ++ q ∷ []) ≡ false
any-snoc name [] q e f = rw f refl
any-snoc name (p ∷ ps) q e f =
    elim (cases_Bool (same name p.0)) [
      | inl found ↦ let bad : list_any (λ p. same name p.0) (p ∷ ps) ≡ true = rw found refl in absurd (false≢true (sym e ∙ bad))
      | inr other ↦ let rest : list_any (λ p. same name p.0) ps ≡ false = rw other at e in rw (other, any-snoc name ps q rest f) refl
    ]

-- one variable more that has another name
pub still-absent : (name : List ℕ) (ps : List Pair) (at : ℕ) (q : Pair) → slice_get ps at ≡ Some q → list_any (λ p. same name p.0) (take at ps) ≡ false → same name q.0 ≡ false → list_any (λ p. same name p.0) (take (at + 1) ps) ≡ false
still-absent name ps at q is e f = ap (list_any (λ p. same name p.0)) (take-next ps at q is) ∙ any-snoc name (take at ps) q e f

-- ---- the environment of variables

-- variables with distinct names are their own environment
pub env_of-distinct : (ps : List Pair) → HasDistinctNames ps → env_of ps ≡ ps
env_of-distinct [] d = refl
env_of-distinct (p ∷ ps) d =
    ap (in_front p) (env_of-distinct ps d.1)
    ∙ (λ i. (p.0, unwrap_or (value_of-absent p.0 ps d.0 i) p.1) ∷ dropped-absent p.0 ps d.0 i)

fold-environment : (env left : List Pair) → IsEnvironment env → AllByRecursion IsVariable left → IsEnvironment (fold (λ env p. assigned env p.0 p.1) env left)
fold-environment env [] is all = is
fold-environment env (p ∷ left) is all = fold-environment (assigned env p.0 p.1) left (IsEnvironment-assigned env p.0 p.1 all.0 is) all.1

pub env_of-environment : (ps : List Pair) → AllByRecursion IsVariable ps → IsEnvironment (env_of ps)
env_of-environment ps all =
    let P : List Pair → Type 0 = λ env. IsEnvironment env in
    subst P (fold-assigned ps) (fold-environment [] ps (record { each = tt; distinct = tt }) all)

-- ---- slices of an image's data, seen as variables

abbrev Slices : Type 0
Slices = Bor (List ℕ) × Bor (List ℕ)

pub get-mapped : (items : List Slices) (at : ℕ) (q d : Slices) → at < length items → q ≡ get_or items at d → slice_get (map pair_at items) at ≡ Some (pair_at q)
get-mapped [] at q d l is = absurd (omega arith)
get-mapped (p ∷ ps) zero q d l is = ap (λ (r : Slices). Some (pair_at r)) (sym is)
get-mapped (p ∷ ps) (suc at) q d l is = get-mapped ps at q d (omega arith) is

-- what a list is after a variable was put last, or could not be
pub put-environment : (r : Result (Unit {0}) AllocError) (old new : List Slices) (name value : List ℕ) → is_name name ≡ true → is_value value ≡ true → IsEnvironment (map pair_at old)
    → OnOk r (map pair_at new ≡ put (map pair_at old) name value) → OnErr r (new ≡ old) → IsEnvironment (map pair_at new)
put-environment (Ok done) old new name value n v is ok err =
    let P : List Pair → Type 0 = λ env. IsEnvironment env in
    subst P (sym ok) (IsEnvironment-put (map pair_at old) name value (IsVariable-tested name value n v) is)
put-environment (Err e) old new name value n v is ok err =
    let P : List Pair → Type 0 = λ env. IsEnvironment env in
    subst P (ap (map pair_at) (sym err)) is
