-- The least of causes are those that none before them covers, and of these those that none after them covers.
use Rattle.std.proofs.Common.{Bool, true, false, cond, not, ◌||◌, List, [], ◌∷◌, ◌++◌, fold, reverse, refl, sym, ap, subst, ◌∙◌, ◌≡◌, append_assoc, append-nil}
use Rattle.std.proofs.lemmas.List.{reverse-append}
use Rattle.std.proofs.lemmas.List.Elements.{filter-append}
use Rattle.std.proofs.lemmas.List.Folds.{list_any-append}
use Rattle.std.proofs.lemmas.List.Sums.{fold-append}
use Rattle.rehearse_causes.specs.Causes.{Cause, covers, least}
use Rattle.rehearse_causes.specs.Keeping.{foremost, with_cause}
use Rattle.rehearse_causes.proofs.CoveringLemmas.{covers_on}
use Rattle.rehearse_causes.proofs.LeastLemmas.{covered, covered_on, kept_covers, kept_are_of, kept_step, uncovered}

-- ---- what they cover

front_covers : (q : Cause) (ks xs : List Cause) → covered q (fold with_cause ks xs) ≡ covered q (ks ++ xs)
front_covers q ks [] = ap (covered q) (sym (append-nil ks))
front_covers q ks (x ∷ xs) = by (covered x ks) refl (front_covers q ks xs) (front_covers q (ks ++ x ∷ []) xs)
  where
    skipped : covered x ks ≡ true → (b : Bool) → covers x q ≡ b → (covered q ks || covered q xs) ≡ (covered q ks || (covers x q || covered q xs))
    skipped e true s = rw (covered_on x q ks e s) refl
    skipped e false s = rw s refl

    by : (b : Bool) → covered x ks ≡ b → covered q (fold with_cause ks xs) ≡ covered q (ks ++ xs) → covered q (fold with_cause (ks ++ x ∷ []) xs) ≡ covered q ((ks ++ x ∷ []) ++ xs)
        → covered q (fold with_cause (with_cause ks x) xs) ≡ covered q (ks ++ x ∷ xs)
    by true e on more =
        rw e (on ∙ list_any-append (λ d. covers d q) ks xs ∙ skipped e (covers x q) refl ∙ sym (list_any-append (λ d. covers d q) ks (x ∷ xs)))
    by false e on more = rw e (more ∙ ap (covered q) (append_assoc ks (x ∷ []) xs))

least_covers : (q : Cause) (cs : List Cause) → covered q (least cs) ≡ covered q cs
least_covers q cs = by (covered q cs) refl
  where
    by : (b : Bool) → covered q cs ≡ b → covered q (least cs) ≡ covered q cs
    by true e = kept_covers cs q e ∙ sym e
    by false e = kept_are_of [] cs q e ∙ sym e

-- ---- with one more in front

covered_apart : (c x : Cause) (ks : List Cause) → covers c x ≡ false → covered x (uncovered c ks) ≡ covered x ks
covered_apart c x [] h = refl
covered_apart c x (d ∷ ks) h = by (covers c d) (covers d x) refl refl (covered_apart c x ks h)
  where
    by : (a b : Bool) → covers c d ≡ a → covers d x ≡ b → covered x (uncovered c ks) ≡ covered x ks → covered x (uncovered c (d ∷ ks)) ≡ covered x (d ∷ ks)
    by true true p q on = absurd (let f = sym h ∙ covers_on c d x p q in cc)
    by true false p q on = rw (p, q) on
    by false b p q on = rw p (ap (λ (r : Bool). covers d x || r) on)

one_in_front : (c : Cause) (ks xs : List Cause) → fold with_cause (c ∷ uncovered c ks) xs ≡ c ∷ uncovered c (fold with_cause ks xs)
one_in_front c ks [] = refl
one_in_front c ks (x ∷ xs) = by (covers c x) (covered x ks) refl refl (one_in_front c ks xs) (one_in_front c (ks ++ x ∷ []) xs)
  where
    last : uncovered c (ks ++ x ∷ []) ≡ uncovered c ks ++ uncovered c (x ∷ [])
    last = filter-append (λ d. not (covers c d)) ks (x ∷ [])

    by : (a b : Bool) → covers c x ≡ a → covered x ks ≡ b
        → fold with_cause (c ∷ uncovered c ks) xs ≡ c ∷ uncovered c (fold with_cause ks xs)
        → fold with_cause (c ∷ uncovered c (ks ++ x ∷ [])) xs ≡ c ∷ uncovered c (fold with_cause (ks ++ x ∷ []) xs)
        → fold with_cause (with_cause (c ∷ uncovered c ks) x) xs ≡ c ∷ uncovered c (fold with_cause (with_cause ks x) xs)
    by true true p q on more = rw (p, q) on
    by true false p q on more =
        let none : uncovered c (x ∷ []) ≡ [] = rw p refl in
        let left = last ∙ ap (λ (ds : List Cause). uncovered c ks ++ ds) none ∙ append-nil (uncovered c ks) in
        rw (p, q) (ap (λ (ds : List Cause). fold with_cause (c ∷ ds) xs) (sym left) ∙ more)
    by false true p q on more =
        let here = covered_apart c x ks p ∙ q in
        rw (p, here, q) on
    by false false p q on more =
        let here = covered_apart c x ks p ∙ q in
        let one : uncovered c (x ∷ []) ≡ x ∷ [] = rw p refl in
        let left = last ∙ ap (λ (ds : List Cause). uncovered c ks ++ ds) one in
        rw (p, here, q) (ap (λ (ds : List Cause). fold with_cause (c ∷ ds) xs) (sym left) ∙ more)

-- ---- from both ends

abbrev pub from_both_ends : List Cause → List Cause
from_both_ends cs = reverse (foremost (reverse (foremost cs)))

reversed_apart : (c : Cause) (ks : List Cause) → reverse (uncovered c ks) ≡ uncovered c (reverse ks)
reversed_apart c [] = refl
reversed_apart c (d ∷ ks) = by (covers c d) refl (reversed_apart c ks)
  where
    last : uncovered c (reverse (d ∷ ks)) ≡ uncovered c (reverse ks) ++ uncovered c (d ∷ [])
    last = ap (uncovered c) (reverse-append (d ∷ []) ks) ∙ filter-append (λ e. not (covers c e)) (reverse ks) (d ∷ [])

    by : (b : Bool) → covers c d ≡ b → reverse (uncovered c ks) ≡ uncovered c (reverse ks) → reverse (uncovered c (d ∷ ks)) ≡ uncovered c (reverse (d ∷ ks))
    by true p on =
        let none : uncovered c (d ∷ []) ≡ [] = rw p refl in
        let here : uncovered c (d ∷ ks) ≡ uncovered c ks = rw p refl in
        ap (λ (ds : List Cause). reverse ds) here ∙ on
        ∙ sym (last ∙ ap (λ (ds : List Cause). uncovered c (reverse ks) ++ ds) none ∙ append-nil (uncovered c (reverse ks)))
    by false p on =
        let one : uncovered c (d ∷ []) ≡ d ∷ [] = rw p refl in
        let here : uncovered c (d ∷ ks) ≡ d ∷ uncovered c ks = rw p refl in
        ap (λ (ds : List Cause). reverse ds) here ∙ reverse-append (d ∷ []) (uncovered c ks)
        ∙ ap (λ (ds : List Cause). ds ++ d ∷ []) on
        ∙ sym (last ∙ ap (λ (ds : List Cause). uncovered c (reverse ks) ++ ds) one)

abbrev AreLeast : List Cause → Type 0
AreLeast cs = from_both_ends cs ≡ least cs

least_with : (cs : List Cause) (c : Cause) → AreLeast cs → AreLeast (cs ++ c ∷ [])
least_with cs c on = by (covered c cs) refl
  where
    more : foremost (cs ++ c ∷ []) ≡ with_cause (foremost cs) c
    more = fold-append with_cause [] cs (c ∷ [])

    by : (b : Bool) → covered c cs ≡ b → from_both_ends (cs ++ c ∷ []) ≡ least (cs ++ c ∷ [])
    by true e =
        let front : with_cause (foremost cs) c ≡ foremost cs = rw (front_covers c [] cs ∙ e) refl in
        let there : cond (covered c (least cs)) (least cs) (uncovered c (least cs) ++ c ∷ []) ≡ least cs = rw (least_covers c cs ∙ e) refl in
        ap (λ (ds : List Cause). reverse (foremost (reverse ds))) (more ∙ front) ∙ on ∙ sym (kept_step cs c ∙ there)
    by false e =
        let front : with_cause (foremost cs) c ≡ foremost cs ++ c ∷ [] = rw (front_covers c [] cs ∙ e) refl in
        let there : cond (covered c (least cs)) (least cs) (uncovered c (least cs) ++ c ∷ []) ≡ uncovered c (least cs) ++ c ∷ [] = rw (least_covers c cs ∙ e) refl in
        let turned : reverse (foremost cs ++ c ∷ []) ≡ c ∷ reverse (foremost cs) = reverse-append (foremost cs) (c ∷ []) in
        let again : foremost (c ∷ reverse (foremost cs)) ≡ c ∷ uncovered c (foremost (reverse (foremost cs))) = one_in_front c [] (reverse (foremost cs)) in
        ap (λ (ds : List Cause). reverse (foremost (reverse ds))) (more ∙ front)
        ∙ ap (λ (ds : List Cause). reverse (foremost ds)) turned
        ∙ ap (λ (ds : List Cause). reverse ds) again
        ∙ reverse-append (c ∷ []) (uncovered c (foremost (reverse (foremost cs))))
        ∙ ap (λ (ds : List Cause). ds ++ c ∷ []) (reversed_apart c (foremost (reverse (foremost cs))) ∙ ap (uncovered c) on)
        ∙ sym (kept_step cs c ∙ there)

least_from : (front cs : List Cause) → AreLeast front → AreLeast (front ++ cs)
least_from front [] is = subst AreLeast (sym (append-nil front)) is
least_from front (c ∷ cs) is = subst AreLeast (append_assoc front (c ∷ []) cs) (least_from (front ++ c ∷ []) cs (least_with front c is))

pub least_from_both_ends : (cs : List Cause) → from_both_ends cs ≡ least cs
least_from_both_ends cs = least_from [] cs refl
