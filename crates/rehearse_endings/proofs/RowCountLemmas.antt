-- A row counts the runs with its ending.
use Rattle.std.proofs.Common.{◌≡◌, ℕ, ◌+◌, Bool, true, false, cond, List, [], ◌∷◌, ◌++◌, map, filter, length, refl, sym, ap, subst, ◌∙◌, arith}
use Rattle.std.specs.List.{list_any}
use Rattle.rehearse_terms.specs.Outcomes.{OutcomeWord}
use Rattle.rehearse_terms.specs.State.{Text}
use Rattle.rehearse_rules.specs.Runs.{Task, unexpected, all_runs}
use Rattle.rehearse_states.specs.Endings.{RunEnd, Row, end_eq, joined, with_row, merge, one_run, end_of, endings}
use Rattle.rehearse_states.proofs.RowsOfRuns.{AreApart, Misses, either_left, either_right, end_itself, end_same}
use Rattle.rehearse_endings.proofs.LawLemmas.{apart_merge, missed_in}

-- ---- what rows count for an ending

abbrev share : RunEnd → Row → ℕ
share e r = cond (end_eq r.run_end e) r.count 0

abbrev counts : RunEnd → List Row → ℕ
counts e [] = 0
counts e (r ∷ rs) = share e r + counts e rs

abbrev row_if : Bool → Row → List Row → Row → List Row
row_if b r rs row = elim b [ true ↦ joined r row ∷ rs | false ↦ r ∷ with_row rs row ]

sum_if : (b c : Bool) (m n k : ℕ) → b ≡ c → cond b (m + n) 0 + k ≡ (cond b m 0 + k) + cond c n 0
sum_if true true m n k e = omega arith
sum_if true false m n k e = cc
sum_if false true m n k e = cc
sum_if false false m n k e = omega arith

add_on : (a b c d : ℕ) → b ≡ c + d → a + b ≡ (a + c) + d
add_on a b c d h = omega (arith, h)

add_none : (a : ℕ) → a + 0 ≡ 0 + a
add_none a = omega arith

plus_none : (a : ℕ) → a ≡ a + 0
plus_none a = omega arith

none_plus : (a : ℕ) → 0 + a ≡ a
none_plus a = omega arith

regroup : (a b c : ℕ) → (a + b) + c ≡ a + (b + c)
regroup a b c = omega arith

counts_if : (b : Bool) (e : RunEnd) (r : Row) (rs : List Row) (row : Row) → end_eq r.run_end row.run_end ≡ b → counts e (with_row rs row) ≡ counts e rs + share e row → counts e (row_if b r rs row) ≡ (share e r + counts e rs) + share e row
counts_if true e r rs row k h = sum_if (end_eq r.run_end e) (end_eq row.run_end e) r.count row.count (counts e rs) (ap (λ (x : RunEnd). end_eq x e) (end_same r.run_end row.run_end k))
counts_if false e r rs row k h = add_on (share e r) (counts e (with_row rs row)) (counts e rs) (share e row) h

counts_with : (e : RunEnd) (rs : List Row) (row : Row) → counts e (with_row rs row) ≡ counts e rs + share e row
counts_with e [] row = add_none (share e row)
counts_with e (r ∷ rs) row = counts_if (end_eq r.run_end row.run_end) e r rs row refl (counts_with e rs row)

counts_merge : (e : RunEnd) (rs ts : List Row) → counts e (merge rs ts) ≡ counts e rs + counts e ts
counts_merge e rs [] = plus_none (counts e rs)
counts_merge e rs (t ∷ ts) =
    counts_merge e (with_row rs t) ts ∙ ap (λ (n : ℕ). n + counts e ts) (counts_with e rs t) ∙ regroup (counts e rs) (share e t) (counts e ts)

-- ---- of one ending

one_if : (b : Bool) (w : OutcomeWord) (ws : List OutcomeWord) (n : ℕ) → n ≡ length ws → cond b 1 0 + n ≡ length (cond b (w ∷ ws) ws)
one_if true w ws n h = omega (arith, h)
one_if false w ws n h = omega (arith, h)

-- single runs
counts_runs : (e : RunEnd) (ends : OutcomeWord → RunEnd) (count : OutcomeWord → ℕ) (ws : List OutcomeWord) → counts e (map one_run (map (λ w. (ends w, (w, count w))) ws)) ≡ length (filter (λ w. end_eq (ends w) e) ws)
counts_runs e ends count [] = refl
counts_runs e ends count (w ∷ ws) =
    one_if (end_eq (ends w) e) w (filter (λ v. end_eq (ends v) e) ws) (counts e (map one_run (map (λ v. (ends v, (v, count v))) ws))) (counts_runs e ends count ws)

none_then : (b : Bool) (k n m : ℕ) → b ≡ false → n ≡ m → cond b k 0 + n ≡ m
none_then true k n m e h = cc
none_then false k n m e h = omega (arith, h)

all_then : (b : Bool) (m n : ℕ) → b ≡ true → n ≡ 0 → cond b m 0 + n ≡ m
all_then true m n e h = omega (arith, h)
all_then false m n e h = cc

-- rows of other endings
counts_missed : (e : RunEnd) (rs : List Row) → Misses e rs → counts e rs ≡ 0
counts_missed e [] h = refl
counts_missed e (r ∷ rs) h =
    let others = list_any (λ q. end_eq q.run_end e) rs in
    none_then (end_eq r.run_end e) r.count (counts e rs) 0 (either_left (end_eq r.run_end e) others h) (counts_missed e rs (either_right (end_eq r.run_end e) others h))

other_way : (b : Bool) (x y : RunEnd) → end_eq x y ≡ false → end_eq y x ≡ b → end_eq y x ≡ false
other_way true x y h k = absurd (let e : end_eq x y ≡ true = ap (λ (z : RunEnd). end_eq x z) (end_same y x k) ∙ end_itself x in cc)
other_way false x y h k = k

-- a row among others
counts_alone : (before : List Row) (r : Row) (behind : List Row) → AreApart (before ++ r ∷ behind) → counts r.run_end (before ++ r ∷ behind) ≡ r.count
counts_alone [] r behind h = all_then (end_eq r.run_end r.run_end) r.count (counts r.run_end behind) (end_itself r.run_end) (counts_missed r.run_end behind h.0)
counts_alone (x ∷ before) r behind h =
    none_then (end_eq x.run_end r.run_end) x.count (counts r.run_end (before ++ r ∷ behind)) r.count
    (other_way (end_eq x.run_end r.run_end) r.run_end x.run_end (missed_in x.run_end before r behind h.0) refl)
    (counts_alone before r behind h.1)

pub rows_count_runs : (names : List Text) (task : Task) (r : Row) (before behind : List Row) → endings names task ≡ before ++ r ∷ behind → r.count ≡ length (filter (λ w. end_eq (end_of names task w) r.run_end) (all_runs task))
rows_count_runs names task r before behind is =
    let runs : List Row = map one_run (map (λ w. (end_of names task w, (w, unexpected task w))) (all_runs task)) in
    let apart : AreApart (before ++ r ∷ behind) = subst AreApart is (apart_merge [] runs tt) in
    sym (counts_alone before r behind apart)
    ∙ ap (counts r.run_end) (sym is)
    ∙ counts_merge r.run_end [] runs
    ∙ none_plus (counts r.run_end runs)
    ∙ counts_runs r.run_end (end_of names task) (unexpected task) (all_runs task)
