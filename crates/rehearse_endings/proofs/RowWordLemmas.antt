-- Which runs the words of rows are.
use Rattle.std.proofs.Common.{ℕ, ◌≡◌, ◌<◌, ◌≤◌, nat_le, Bool, true, false, cond, List, [], ◌∷◌, ◌++◌, map, refl, sym, ap, subst, ◌∙◌, append_assoc, append-nil, arith}
use Rattle.std.proofs.lemmas.Bool.{leb-true, leb-false}
use Rattle.std.specs.List.{list_any}
use Rattle.rehearse_terms.specs.Outcomes.{OutcomeWord}
use Rattle.rehearse_terms.specs.State.{Text}
use Rattle.rehearse_rules.specs.Runs.{Task, unexpected, all_runs}
use Rattle.rehearse_states.specs.Endings.{RunEnd, Row, Counted, fewer, end_eq, joined, with_row, merge, one_run, end_of, endings}
use Rattle.rehearse_endings.specs.Laws.{Each, IsFirst, IsFewest}
use Rattle.rehearse_states.proofs.RowsOfRuns.{AreApart, Misses, row_if, apart_on, either_left, either_right, neither, end_itself, end_same, stands_on, stands_new}

-- ---- each of some words

each_append : (P : OutcomeWord → Type 0) (v w : List OutcomeWord) → Each P v → Each P w → Each P (v ++ w)
each_append P [] w h k = k
each_append P (x ∷ v) w h k = (h.0, each_append P v w h.1 k)

each_weaker : (P Q : OutcomeWord → Type 0) (v : List OutcomeWord) → ((x : OutcomeWord) → P x → Q x) → Each P v → Each Q v
each_weaker P Q [] f h = tt
each_weaker P Q (x ∷ v) f h = (f x h.0, each_weaker P Q v f h.1)

module _ (count : OutcomeWord → ℕ) (IsSo : OutcomeWord → Type 0) (seen : List OutcomeWord) (x : OutcomeWord) where
  first_on : (w : OutcomeWord) → IsFirst IsSo w seen → IsFirst IsSo w (seen ++ x ∷ [])
  first_on w h = record {
    front = h.front;
    rest = h.rest ++ x ∷ [];
    stands = ap (λ (l : List OutcomeWord). l ++ x ∷ []) h.stands ∙ append_assoc h.front (w ∷ h.rest) (x ∷ []);
    so = h.so;
    none = h.none;
  }

  first_new : IsSo x → Each (λ v. IsSo v → ⊥) seen → IsFirst IsSo x (seen ++ x ∷ [])
  first_new so none = record { front = seen; rest = []; stands = refl; so = so; none = none }

  fewest_on : (w : OutcomeWord) → (IsSo x → count w ≤ count x) → IsFewest count IsSo w seen → IsFewest count IsSo w (seen ++ x ∷ [])
  fewest_on w l h = record {
    front = h.front;
    rest = h.rest ++ x ∷ [];
    stands = ap (λ (l : List OutcomeWord). l ++ x ∷ []) h.stands ∙ append_assoc h.front (w ∷ h.rest) (x ∷ []);
    so = h.so;
    more = h.more;
    no_fewer = each_append (λ v. IsSo v → count w ≤ count v) h.rest (x ∷ []) h.no_fewer (l, tt);
  }

  fewest_new : IsSo x → Each (λ v. IsSo v → count x < count v) seen → IsFewest count IsSo x (seen ++ x ∷ [])
  fewest_new so more = record { front = seen; rest = []; stands = refl; so = so; more = more; no_fewer = tt }

  all_more : (w : OutcomeWord) → count x < count w → IsFewest count IsSo w seen → Each (λ v. IsSo v → count x < count v) seen
  all_more w l h = subst (Each (λ v. IsSo v → count x < count v)) (sym h.stands)
      (each_append (λ v. IsSo v → count x < count v) h.front (w ∷ h.rest)
      (each_weaker (λ v. IsSo v → count w < count v) (λ v. IsSo v → count x < count v) h.front (λ v k s. let a = k s in omega arith) h.more)
      ((λ s. l), each_weaker (λ v. IsSo v → count w ≤ count v) (λ v. IsSo v → count x < count v) h.rest (λ v k s. let a = k s in omega arith) h.no_fewer))

  -- the number that a row has
  abbrev Tells : Counted → Type 0
  Tells v = IsFewest count IsSo v.0 (seen ++ x ∷ []) × (v.1 ≡ count v.0)

  fewest_both : (v : Counted) (b : Bool) → nat_le v.1 (count x) ≡ b → v.1 ≡ count v.0 → IsSo x → IsFewest count IsSo v.0 seen → Tells (cond b v (x, count x))
  fewest_both v true e c so h = (fewest_on v.0 (λ s. let l = leb-true v.1 (count x) e in omega (arith, c, l)) h, c)
  fewest_both v false e c so h = (fewest_new so (all_more v.0 (let l = leb-false v.1 (count x) e in omega (arith, c, l)) h), refl)

-- ---- what rows say of the runs that were seen

module _ (ends : OutcomeWord → RunEnd) (count : OutcomeWord → ℕ) where
  abbrev single : OutcomeWord → Row
  single w = one_run (ends w, (w, count w))

  abbrev EndsSo : RunEnd → OutcomeWord → Type 0
  EndsSo e w = ends w ≡ e

  abbrev IsTold : List OutcomeWord → Row → Type 0
  IsTold seen r = IsFirst (EndsSo r.run_end) r.word seen × IsFewest count (EndsSo r.run_end) r.fewest.0 seen × (r.fewest.1 ≡ count r.fewest.0)

  abbrev AreTold : List OutcomeWord → List Row → Type 0
  AreTold seen [] = Unit {0}
  AreTold seen (r ∷ rs) = IsTold seen r × AreTold seen rs

  abbrev NoneEnds : RunEnd → List OutcomeWord → Type 0
  NoneEnds e seen = Each (λ w. EndsSo e w → ⊥) seen

  module _ (seen : List OutcomeWord) (x : OutcomeWord) where
    differs : (e : RunEnd) → end_eq e (ends x) ≡ false → EndsSo e x → ⊥
    differs e h k = let l : end_eq e (ends x) ≡ true = ap (end_eq e) k ∙ end_itself e in cc

    other_told : (r : Row) → end_eq r.run_end (ends x) ≡ false → IsTold seen r → IsTold (seen ++ x ∷ []) r
    other_told r d h = (first_on count (EndsSo r.run_end) seen x r.word h.0, fewest_on count (EndsSo r.run_end) seen x r.fewest.0 (λ s. absurd (differs r.run_end d s)) h.1, h.2)

    others_told : (rs : List Row) → Misses (ends x) rs → AreTold seen rs → AreTold (seen ++ x ∷ []) rs
    others_told [] d h = tt
    others_told (r ∷ rs) d h = (
      other_told r (either_left (end_eq r.run_end (ends x)) (list_any (λ q. end_eq q.run_end (ends x)) rs) d) h.0,
      others_told rs (either_right (end_eq r.run_end (ends x)) (list_any (λ q. end_eq q.run_end (ends x)) rs) d) h.1,
    )

    joined_told : (r : Row) → r.run_end ≡ ends x → IsTold seen r → IsTold (seen ++ x ∷ []) (joined r (single x))
    joined_told r same h =
        let both = fewest_both count (EndsSo r.run_end) seen x r.fewest (nat_le r.fewest.1 (count x)) refl h.2 (sym same) h.1 in
        (first_on count (EndsSo r.run_end) seen x r.word h.0, both.0, both.1)

    step_if : (b : Bool) (r : Row) (rs : List Row) → end_eq r.run_end (ends x) ≡ b → AreApart (r ∷ rs) → AreTold seen (r ∷ rs) → (b ≡ false → AreTold (seen ++ x ∷ []) (with_row rs (single x))) → AreTold (seen ++ x ∷ []) (row_if b r rs (single x))
    step_if true r rs e d h k =
        let same : r.run_end ≡ ends x = end_same r.run_end (ends x) e in
        (joined_told r same h.0, others_told rs (subst (λ (z : RunEnd). Misses z rs) same d.0) h.1)
    step_if false r rs e d h k = (other_told r e h.0, k refl)

    -- one more run
    step : (rows : List Row) → AreApart rows → AreTold seen rows → (Misses (ends x) rows → NoneEnds (ends x) seen) → AreTold (seen ++ x ∷ []) (with_row rows (single x))
    step [] d h none =
        ((first_new count (EndsSo (ends x)) seen x refl (none refl), fewest_new count (EndsSo (ends x)) seen x refl (each_weaker (λ v. EndsSo (ends x) v → ⊥) (λ v. EndsSo (ends x) v → count x < count v) seen (λ v k s. absurd (k s)) (none refl)), refl), tt)
    step (r ∷ rs) d h none =
        step_if (end_eq r.run_end (ends x)) r rs refl d h (λ e. step rs d.1 h.1 (λ m. none (neither (end_eq r.run_end (ends x)) (list_any (λ q. end_eq q.run_end (ends x)) rs) e m)))

    before_if : (b : Bool) (e : RunEnd) (rs : List Row) → list_any (λ q. end_eq q.run_end e) rs ≡ b → Misses e (with_row rs (single x)) → Misses e rs
    before_if true e rs k m = absurd (let s = stands_on e rs (single x) k in cc)
    before_if false e rs k m = k

    -- an ending that is in no row after this run was in none before, and this run has another
    missing_on : (rows : List Row) → ((e : RunEnd) → Misses e rows → NoneEnds e seen) → (e : RunEnd) → Misses e (with_row rows (single x)) → NoneEnds e (seen ++ x ∷ [])
    missing_on rows h e m =
        each_append (λ w. EndsSo e w → ⊥) seen (x ∷ []) (h e (before_if (list_any (λ q. end_eq q.run_end e) rows) e rows refl m)) ((λ s. absurd (let k = stands_new e rows (single x) s in cc)), tt)

  told_all : (ws seen : List OutcomeWord) (rows : List Row) → AreApart rows → AreTold seen rows → ((e : RunEnd) → Misses e rows → NoneEnds e seen) → AreTold (seen ++ ws) (merge rows (map one_run (map (λ w. (ends w, (w, count w))) ws)))
  told_all [] seen rows d h m = subst (λ (s : List OutcomeWord). AreTold s rows) (sym (append-nil seen)) h
  told_all (w ∷ ws) seen rows d h m =
      subst (λ (s : List OutcomeWord). AreTold s (merge (with_row rows (single w)) (map one_run (map (λ v. (ends v, (v, count v))) ws)))) (append_assoc seen (w ∷ []) ws)
      (told_all ws (seen ++ w ∷ []) (with_row rows (single w)) (apart_on rows (single w) d) (step seen w rows d h (m (ends w))) (missing_on seen w rows m))

  told_in : (seen : List OutcomeWord) (before : List Row) (r : Row) (behind : List Row) → AreTold seen (before ++ r ∷ behind) → IsTold seen r
  told_in seen [] r behind h = h.0
  told_in seen (q ∷ before) r behind h = told_in seen before r behind h.1

pub rows_tell_of_runs : (names : List Text) (task : Task) (r : Row) (before behind : List Row) → endings names task ≡ before ++ r ∷ behind → IsFirst (λ w. end_of names task w ≡ r.run_end) r.word (all_runs task) × IsFewest (unexpected task) (λ w. end_of names task w ≡ r.run_end) r.fewest.0 (all_runs task) × (r.fewest.1 ≡ unexpected task r.fewest.0)
rows_tell_of_runs names task r before behind is =
    told_in (end_of names task) (unexpected task) (all_runs task) before r behind
    (subst (AreTold (end_of names task) (unexpected task) (all_runs task)) is (told_all (end_of names task) (unexpected task) (all_runs task) [] [] tt tt (λ e m. tt)))
