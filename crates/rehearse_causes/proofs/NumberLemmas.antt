-- What can cover a cause has the number of a part of what fails in it.
use Rattle.std.proofs.Common.{ℕ, zero, suc, Bool, true, false, cond, ◌&&◌, ◌||◌, List, [], ◌∷◌, filter, fold, length, refl, sym, ap, subst, ◌∙◌, ◌≡◌, ◌≤◌, ◌+◌, ◌%◌, ◌^◌, nat_eq, nat_le, inl, inr, ◌⊎◌, arith}
use Rattle.std.proofs.Math.Nat.{mod-add-mod}
use Rattle.std.proofs.lemmas.Bool.{eq-eqb, eqb-true, le-leb, leb-true}
use Rattle.std.specs.List.{list_any}
use Rattle.rehearse_terms.specs.State.{Text, same_words}
use Rattle.rehearse_states.specs.Endings.{ending_eq}
use Rattle.rehearse_causes.specs.Causes.{Cause, times, are_among, covers, calls}
use Rattle.rehearse_causes.specs.Keeping.{is_covered, is_covered_by}
use Rattle.rehearse_causes.specs.Numbers.{cause_number, command_number, each_fail, each_with, part_numbers, with_fail, with_number}
use Rattle.rehearse_causes.proofs.CoveringLemmas.{IsOne, first, later, all_pass, passes_all, one_counts, counted_is_one, words_same, words_themselves, both_right}
use Rattle.rehearse_causes.proofs.LeastLemmas.{either, either_left, either_right}

-- ---- a command taken out of others

abbrev without : List Text → List (List Text) → List (List Text)
without c [] = []
without c (d ∷ ds) = cond (same_words c d) ds (d ∷ without c ds)

counted_more : (y d : List Text) (ds : List (List Text)) → times y (d ∷ ds) ≡ times y (d ∷ []) + times y ds
counted_more y d ds = by (same_words y d) refl
  where
    by : (b : Bool) → same_words y d ≡ b → times y (d ∷ ds) ≡ times y (d ∷ []) + times y ds
    by true e = rw e (omega arith)
    by false e = rw e (omega arith)

counted_without : (c y : List Text) (ds : List (List Text)) → IsOne c ds → times y ds ≡ times y (c ∷ []) + times y (without c ds)
counted_without c y [] one = elim one [ ]
counted_without c y (d ∷ ds) one = by (same_words c d) refl one (counted_without c y ds)
  where
    by : (b : Bool) → same_words c d ≡ b → IsOne c (d ∷ ds) → (IsOne c ds → times y ds ≡ times y (c ∷ []) + times y (without c ds))
        → times y (d ∷ ds) ≡ times y (c ∷ []) + times y (without c (d ∷ ds))
    by true e one on = rw e (subst (λ (x : List Text). times y (d ∷ ds) ≡ times y (x ∷ []) + times y ds) (sym (words_same c d e)) (counted_more y d ds))
    by false e (first same) on =
        let there : same_words c d ≡ true = subst (λ (x : List Text). same_words c x ≡ true) same (words_themselves c) in
        absurd (let f = sym e ∙ there in cc)
    by false e (later one) on =
        let more = counted_more y d ds in
        let left = counted_more y d (without c ds) in
        let rest = on one in
        rw e (omega (arith, more, left, rest))

one_without : (c y : List Text) (ds : List (List Text)) → IsOne y (without c ds) → IsOne y ds
one_without c y [] one = elim one [ ]
one_without c y (d ∷ ds) one = by (same_words c d) (subst (λ (es : List (List Text)). IsOne y es) refl one) refl (one_without c y ds)
  where
    further : IsOne y (d ∷ without c ds) → (IsOne y (without c ds) → IsOne y ds) → IsOne y (d ∷ ds)
    further (first e) on = first e
    further (later o) on = later (on o)

    by : (b : Bool) → IsOne y (cond (same_words c d) ds (d ∷ without c ds)) → same_words c d ≡ b → (IsOne y (without c ds) → IsOne y ds) → IsOne y (d ∷ ds)
    by true o e on = later (subst (λ (b : Bool). IsOne y (cond b ds (d ∷ without c ds))) e o)
    by false o e on = further (subst (λ (b : Bool). IsOne y (cond b ds (d ∷ without c ds))) e o) on

one_or_none : (c : List Text) (ds : List (List Text)) → IsOne c ds ⊎ (times c ds ≡ 0)
one_or_none c ds = by (times c ds) refl
  where
    by : (n : ℕ) → times c ds ≡ n → IsOne c ds ⊎ (times c ds ≡ 0)
    by zero e = inr e
    by (suc n) e = inl (counted_is_one c ds (omega (arith, e)))

among_none : (ds : List (List Text)) → are_among ds [] ≡ true → ds ≡ []
among_none [] h = refl
among_none (d ∷ ds) h =
    let none : times d (d ∷ ds) ≤ times d [] = leb-true _ _ (passes_all (λ c. nat_le (times c (d ∷ ds)) (times c [])) d (d ∷ ds) h (first refl)) in
    let some = one_counts d (d ∷ ds) (first refl) in
    absurd (omega (arith, none, some))

among_without : (c : List Text) (ds cs : List (List Text)) → IsOne c ds → are_among ds (c ∷ cs) ≡ true → are_among (without c ds) cs ≡ true
among_without c ds cs is h = all_pass (λ y. nat_le (times y (without c ds)) (times y cs)) (without c ds) each
  where
    each : (y : List Text) → IsOne y (without c ds) → nat_le (times y (without c ds)) (times y cs) ≡ true
    each y one =
        let here : times y ds ≤ times y (c ∷ cs) = leb-true _ _ (passes_all (λ x. nat_le (times x ds) (times x (c ∷ cs))) y ds h (one_without c y ds one)) in
        let left = counted_without c y ds is in
        let more = counted_more y c cs in
        le-leb _ _ (omega (arith, here, left, more))

among_rest : (c : List Text) (ds cs : List (List Text)) → times c ds ≡ 0 → are_among ds (c ∷ cs) ≡ true → are_among ds cs ≡ true
among_rest c ds cs none h = all_pass (λ y. nat_le (times y ds) (times y cs)) ds (λ y one. by y one (same_words y c) refl)
  where
    by : (y : List Text) → IsOne y ds → (b : Bool) → same_words y c ≡ b → nat_le (times y ds) (times y cs) ≡ true
    by y one true e =
        let some = one_counts c ds (subst (λ (x : List Text). IsOne x ds) (words_same y c e) one) in
        absurd (omega (arith, none, some))
    by y one false e =
        let here : times y ds ≤ times y (c ∷ cs) = leb-true _ _ (passes_all (λ x. nat_le (times x ds) (times x (c ∷ cs))) y ds h one) in
        subst (λ (b : Bool). nat_le (times y ds) (length (cond b (c ∷ filter (same_words y) cs) (filter (same_words y) cs))) ≡ true) e (le-leb _ _ here)

-- ---- the numbers of parts

swapped : (s a b : ℕ) → with_number (with_number s a) b ≡ with_number (with_number s b) a
swapped s a b =
    let sums : s + a + b ≡ s + b + a = omega arith in
    mod-add-mod (s + a) (2 ^ 64) b ∙ ap (λ (n : ℕ). n % 2 ^ 64) sums ∙ sym (mod-add-mod (s + b) (2 ^ 64) a)

taken_out : (c : List Text) (s : ℕ) (ds : List (List Text)) → IsOne c ds → fold with_fail s ds ≡ fold with_fail (with_fail s c) (without c ds)
taken_out c s [] one = elim one [ ]
taken_out c s (d ∷ ds) one = by (same_words c d) refl one (taken_out c (with_fail s d) ds)
  where
    by : (b : Bool) → same_words c d ≡ b → IsOne c (d ∷ ds) → (IsOne c ds → fold with_fail (with_fail s d) ds ≡ fold with_fail (with_fail (with_fail s d) c) (without c ds))
        → fold with_fail s (d ∷ ds) ≡ fold with_fail (with_fail s c) (without c (d ∷ ds))
    by true e one on = rw e (ap (λ (x : List Text). fold with_fail (with_fail s x) ds) (sym (words_same c d e)))
    by false e (first same) on =
        let there : same_words c d ≡ true = subst (λ (x : List Text). same_words c x ≡ true) same (words_themselves c) in
        absurd (let f = sym e ∙ there in cc)
    by false e (later one) on = rw e (on one ∙ ap (λ (n : ℕ). fold with_fail n (without c ds)) (swapped s (command_number d) (command_number c)))

each_keeps : (n s : ℕ) (ss : List ℕ) → list_any (nat_eq s) ss ≡ true → list_any (nat_eq s) (each_with ss n) ≡ true
each_keeps n s [] h = h
each_keeps n s (t ∷ ss) h =
    elim (either (nat_eq s t) (list_any (nat_eq s) ss) h) [
      | inl here ↦ either_left (nat_eq s t) (nat_eq s (with_number t n) || list_any (nat_eq s) (each_with ss n)) here
      | inr there ↦ either_right (nat_eq s t) (nat_eq s (with_number t n) || list_any (nat_eq s) (each_with ss n))
          (either_right (nat_eq s (with_number t n)) (list_any (nat_eq s) (each_with ss n)) (each_keeps n s ss there))
    ]

each_adds : (n s : ℕ) (ss : List ℕ) → list_any (nat_eq s) ss ≡ true → list_any (nat_eq (with_number s n)) (each_with ss n) ≡ true
each_adds n s [] h = absurd (let f = h in cc)
each_adds n s (t ∷ ss) h =
    let sum = with_number s n in
    either_right (nat_eq sum t) (nat_eq sum (with_number t n) || list_any (nat_eq sum) (each_with ss n))
    (elim (either (nat_eq s t) (list_any (nat_eq s) ss) h) [
      | inl here ↦ either_left (nat_eq sum (with_number t n)) (list_any (nat_eq sum) (each_with ss n)) (eq-eqb sum (with_number t n) (ap (λ (x : ℕ). with_number x n) (eqb-true s t here)))
      | inr there ↦ either_right (nat_eq sum (with_number t n)) (list_any (nat_eq sum) (each_with ss n)) (each_adds n s ss there)
    ])

part_found : (ss : List ℕ) (s : ℕ) (cs ds : List (List Text)) → list_any (nat_eq s) ss ≡ true → are_among ds cs ≡ true → list_any (nat_eq (fold with_fail s ds)) (fold each_fail ss cs) ≡ true
part_found ss s [] ds is h = rw (among_none ds h) is
part_found ss s (c ∷ cs) ds is h =
    elim (one_or_none c ds) [
      | inl one ↦ rw (taken_out c s ds one)
          (part_found (each_fail ss c) (with_fail s c) cs (without c ds) (each_adds (command_number c) s ss is) (among_without c ds cs one h))
      | inr none ↦ part_found (each_fail ss c) s cs ds (each_keeps (command_number c) s ss is) (among_rest c ds cs none h)
    ]

covering_number : (k c : Cause) → covers k c ≡ true → list_any (nat_eq (cause_number k)) (part_numbers (calls c)) ≡ true
covering_number k c h = part_found (0 ∷ []) 0 (calls c) (calls k) refl (both_right (ending_eq k.ending c.ending) (are_among (calls k) (calls c)) h)

-- ---- those with one of these numbers

any_none : (ns : List ℕ) → list_any (λ n. false) ns ≡ false
any_none [] = refl
any_none (n ∷ ns) = any_none ns

interchanged : (a b c d : Bool) → ((a || b) || (c || d)) ≡ ((a || c) || (b || d))
interchanged true b c d = refl
interchanged false true true d = refl
interchanged false true false d = refl
interchanged false false true d = refl
interchanged false false false d = refl

any_either : (p q : ℕ → Bool) (ns : List ℕ) → list_any (λ n. p n || q n) ns ≡ (list_any p ns || list_any q ns)
any_either p q [] = refl
any_either p q (n ∷ ns) = ap (λ (b : Bool). (p n || q n) || b) (any_either p q ns) ∙ interchanged (p n) (q n) (list_any p ns) (list_any q ns)

and_true : (a : Bool) → (a && true) ≡ a
and_true true = refl
and_true false = refl

and_false : (a : Bool) → (a && false) ≡ false
and_false true = refl
and_false false = refl

any_and_true : (p : ℕ → Bool) (ns : List ℕ) → list_any (λ n. p n && true) ns ≡ list_any p ns
any_and_true p [] = refl
any_and_true p (n ∷ ns) = ap (λ (b : Bool). b || list_any (λ m. p m && true) ns) (and_true (p n)) ∙ ap (λ (b : Bool). p n || b) (any_and_true p ns)

any_and_false : (p : ℕ → Bool) (ns : List ℕ) → list_any (λ n. p n && false) ns ≡ false
any_and_false p [] = refl
any_and_false p (n ∷ ns) = ap (λ (b : Bool). b || list_any (λ m. p m && false) ns) (and_false (p n)) ∙ any_and_false p ns

found_by_number : (k c : Cause) → list_any (λ n. nat_eq (cause_number k) n && covers k c) (part_numbers (calls c)) ≡ covers k c
found_by_number k c = by (covers k c) refl
  where
    by : (b : Bool) → covers k c ≡ b → list_any (λ n. nat_eq (cause_number k) n && covers k c) (part_numbers (calls c)) ≡ covers k c
    by true e =
        ap (λ (b : Bool). list_any (λ n. nat_eq (cause_number k) n && b) (part_numbers (calls c))) e
        ∙ any_and_true (nat_eq (cause_number k)) (part_numbers (calls c)) ∙ covering_number k c e ∙ sym e
    by false e =
        ap (λ (b : Bool). list_any (λ n. nat_eq (cause_number k) n && b) (part_numbers (calls c))) e
        ∙ any_and_false (nat_eq (cause_number k)) (part_numbers (calls c)) ∙ sym e

-- no other needs to be compared
pub covered_by_numbers : (ks : List Cause) (c : Cause) → list_any (λ n. is_covered_by n ks c) (part_numbers (calls c)) ≡ is_covered ks c
covered_by_numbers [] c = any_none (part_numbers (calls c))
covered_by_numbers (k ∷ ks) c =
    any_either (λ n. nat_eq (cause_number k) n && covers k c) (λ n. is_covered_by n ks c) (part_numbers (calls c))
    ∙ ap (λ (b : Bool). b || list_any (λ n. is_covered_by n ks c) (part_numbers (calls c))) (found_by_number k c)
    ∙ ap (λ (b : Bool). covers k c || b) (covered_by_numbers ks c)
