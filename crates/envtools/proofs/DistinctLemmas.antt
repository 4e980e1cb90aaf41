-- Names whose numbers differ.
use Rattle.std.proofs.Common.{◌≡◌, ℕ, ◌<◌, ◌≤◌, eqb, map, arith, true, false, inl, inr, List, [], ◌∷◌, sym, ap, ◌∙◌}
use Rattle.std.proofs.lemmas.Bool.{cases_Bool, false≢true}
use Rattle.std.proofs.lemmas.Bool.Decides.{nat_tests}
use Rattle.std.proofs.lemmas.Map.Keys.{IsDistinct-IsPermutation, IsDistinct-head, IsDistinct-tail}
use Rattle.std.proofs.lemmas.List.Sorted.{IsPermutation-sym}
use Rattle.std.specs.Cmp.Lexicographic.{bytes_decides}
use Rattle.std.specs.List.{AllByRecursion, IsDistinct}
use Rattle.std.specs.List.Sorted.{IsPermutation}
use Rattle.envimage.specs.Data.{Pair}
use Rattle.envtools.specs.Environment.{same, HasDistinctNames}
use Rattle.envtools.specs.Listed.{Rise, RiseAfter, name_number}

itself : (n : ℕ) → eqb n n ≡ true
itself n = grind (arith, nat_tests)

flips : (m n : ℕ) → eqb m n ≡ eqb n m
flips m n = grind (arith, nat_tests)

less : (k last n : ℕ) → k ≤ last → last < n → eqb k n ≡ false
less k last n within above = grind (arith, nat_tests)

others : (k last : ℕ) (ns : List ℕ) → k ≤ last → RiseAfter last ns → AllByRecursion (λ n. eqb k n ≡ false) ns
others k last [] within rise = tt
others k last (n ∷ ns) within rise = (less k last n within rise.0, others k n ns (let above = rise.0 in omega (arith, within, above)) rise.1)

-- numbers that rise differ
rise-distinct : (last : ℕ) (ns : List ℕ) → RiseAfter last ns → IsDistinct eqb ns
unfolding IsDistinct
rise-distinct last [] rise = tt
rise-distinct last (n ∷ ns) rise = (others n n ns (omega arith) rise.1, rise-distinct n ns rise.1)

apart : (p : Pair) (ps : List Pair) → AllByRecursion (λ n. eqb (name_number p.0) n ≡ false) (map (λ (q : Pair). name_number q.0) ps) → AllByRecursion (λ q. same p.0 q.0 ≡ false) ps
apart p [] all = tt
apart p (q ∷ ps) all = (by, apart p ps all.1)
  where
    by : same p.0 q.0 ≡ false
    by = elim (cases_Bool (same p.0 q.0)) [
      | inl found ↦
          let one : p.0 ≡ q.0 = (bytes_decides p.0 q.0).0 found in
          absurd (false≢true (sym all.0 ∙ (ap (λ name. eqb (name_number p.0) (name_number name)) (sym one) ∙ itself (name_number p.0))))
      | inr other ↦ other
    ]

-- names whose numbers differ are distinct
names-distinct : (ps : List Pair) → IsDistinct eqb (map (λ (p : Pair). name_number p.0) ps) → HasDistinctNames ps
names-distinct [] d = tt
names-distinct (p ∷ ps) d = let numbers = map (λ (q : Pair). name_number q.0) ps in
    (apart p ps (IsDistinct-head eqb (name_number p.0) numbers d), names-distinct ps (IsDistinct-tail eqb (name_number p.0) numbers d))

-- and so are those whose numbers rise in some order
pub rising-distinct : (ps : List Pair) (numbers : List ℕ) → IsPermutation (map (λ (p : Pair). name_number p.0) ps) numbers → Rise numbers → HasDistinctNames ps
rising-distinct ps numbers p rise =
    names-distinct ps (IsDistinct-IsPermutation eqb flips numbers (map (λ (p : Pair). name_number p.0) ps) (IsPermutation-sym (map (λ (p : Pair). name_number p.0) ps) numbers p) (rise-distinct 0 numbers rise))
