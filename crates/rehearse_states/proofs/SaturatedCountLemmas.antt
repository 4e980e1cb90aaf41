-- Counts up to the greatest count.
use Rattle.std.proofs.Common.{ℕ, ◌+◌, min, Bool, true, false, List, [], ◌∷◌, map, Option, refl, ap, ◌∙◌, ◌≡◌, arith}
use Rattle.rehearse_terms.specs.Outcomes.{Outcome, Success, Failure}
use Rattle.rehearse_states.specs.Endings.{Row, end_eq, joined, with_row, merge, in_front, counts_at, of_both}
use Rattle.rehearse_states.specs.RowsShown.{most_runs, saturated, joined_up, with_row_up, merge_up, of_both_up}

sum_up : (a b m : ℕ) → min (a + b) m ≡ min (min a m + min b m) m
sum_up a b m = omega arith

abbrev row_up_if : Bool → Row → List Row → Row → List Row
row_up_if b r rs row = elim b [ true ↦ joined_up r row ∷ rs | false ↦ r ∷ with_row_up rs row ]

abbrev row_if : Bool → Row → List Row → Row → List Row
row_if b r rs row = elim b [ true ↦ joined r row ∷ rs | false ↦ r ∷ with_row rs row ]

put_up_if : (b : Bool) (r : Row) (rs : List Row) (row : Row) → map saturated (with_row rs row) ≡ with_row_up (map saturated rs) (saturated row) → map saturated (row_if b r rs row) ≡ row_up_if b (saturated r) (map saturated rs) (saturated row)
put_up_if true r rs row h = ap (λ (n : ℕ). record (joined r row) { count = n } ∷ map saturated rs) (sum_up r.count row.count most_runs)
put_up_if false r rs row h = ap (λ (x : List Row). saturated r ∷ x) h

put_up : (rs : List Row) (row : Row) → map saturated (with_row rs row) ≡ with_row_up (map saturated rs) (saturated row)
put_up [] row = refl
put_up (r ∷ rs) row = put_up_if (end_eq r.run_end row.run_end) r rs row (put_up rs row)

merge_is_up : (rs ts : List Row) → map saturated (merge rs ts) ≡ merge_up (map saturated rs) (map saturated ts)
merge_is_up rs [] = refl
merge_is_up rs (t ∷ ts) = merge_is_up (with_row rs t) ts ∙ ap (λ (x : List Row). merge_up x (map saturated ts)) (put_up rs t)

front_up : (d : Outcome) (k : ℕ) (rs : List Row) → map saturated (map (in_front d k) rs) ≡ map (in_front d k) (map saturated rs)
front_up d k [] = refl
front_up d k (r ∷ rs) = ap (λ (x : List Row). in_front d k (saturated r) ∷ x) (front_up d k rs)

pub both_up : (expected : Option Bool) (won lost : List Row) → map saturated (of_both expected won lost) ≡ of_both_up expected (map saturated won) (map saturated lost)
both_up expected won lost =
    let s = counts_at expected Success in
    let f = counts_at expected Failure in
    merge_is_up (map (in_front Success s) won) (map (in_front Failure f) lost)
    ∙ ap (λ (x : List Row). merge_up x (map saturated (map (in_front Failure f) lost))) (front_up Success s won)
    ∙ ap (λ (x : List Row). merge_up (map (in_front Success s) (map saturated won)) x) (front_up Failure f lost)
