-- The entries of a map from a place on.
use Rattle.std.proofs.Common.{◌≡◌, ◌∙◌, ◌<◌, ◌≤◌, ◌+◌, ◌*◌, ◌/◌, ◌%◌, ℕ, suc, min, List, [], ◌∷◌, ◌++◌, Some, length, drop, drop-cons, add-one, refl, sym, ap, subst, arith}
use Rattle.std.proofs.lemmas.Option.{slice_get_within, get_or_from_slice_get}
use Rattle.std.proofs.lemmas.List.{length-map, reverse-append}
use Rattle.std.proofs.Math.Nat.{mul_assoc, le-mul_of_pos_right, one-le-mul, mul-le-mul_left}
use Rattle.std.specs.Prelude.{slice_get, reverse}
use Rattle.text.specs.Lines.{Text}
use Rattle.device_list.specs.DevicesShown.{Bytes}
use Rattle.board_start.specs.Start.{count_of, choices, chosen_from, onto_chosen, value_at}
use Rattle.board_start.specs.Start as says
use Rattle.board_start.specs.StartShown.{givens_shown, values_shown}
use Rattle.board_start.specs.declared.values.Values.{Values}

pub drop-at : {X : Type 0} (xs : List X) (k : ℕ) (x : X) → slice_get xs k ≡ Some x → drop k xs ≡ x ∷ drop (k + 1) xs
drop-at xs k x there =
    drop-cons xs k x (slice_get_within xs k x there) ∙ ap (λ item. item ∷ drop (suc k) xs) (get_or_from_slice_get xs k x x there) ∙ rw add-one refl

-- ---- how many alternatives

pub choices-some : (givens : List (Text × says.Values)) → 1 ≤ choices givens
choices-some [] = omega arith
choices-some (g ∷ givens) = one-le-mul (omega arith) (choices-some givens)

-- one more name
pub counted : (entries : List (Bytes × Values)) (at count : ℕ) (entry : Bytes × Values) → slice_get entries at ≡ Some entry → choices (givens_shown entries) ≡ count * choices (givens_shown (drop at entries))
    → choices (givens_shown entries) ≡ count * (length entry.1.others.items + 1) * choices (givens_shown (drop (at + 1) entries))
counted entries at count entry there so_far =
    let n : length (values_shown entry.1).others ≡ length entry.1.others.items = length-map entry.1.others.items (λ w. w.items) in
    so_far ∙ ap (λ (es : List (Bytes × Values)). count * choices (givens_shown es)) (drop-at entries at entry there)
    ∙ ap (λ k. count * ((k + 1) * choices (givens_shown (drop (at + 1) entries)))) n
    ∙ sym (mul_assoc count (length entry.1.others.items + 1) (choices (givens_shown (drop (at + 1) entries))))

-- what is left makes no fewer
pub beyond : (count left total : ℕ) → total ≡ count * left → 1 ≤ left → 64 < count → 65 ≡ min total 65
beyond count left total e some many =
    let h : count ≤ count * left = le-mul_of_pos_right count some in
    let i : count ≤ total = subst (λ (n : ℕ). count ≤ n) (sym e) h in
    omega (arith, i, many)

-- so many values of one name are enough
pub many_values : (count more : ℕ) → 1 ≤ count → 64 ≤ more → 64 < count * (more + 1)
many_values count more some many =
    let h : count * 65 ≤ count * (more + 1) = mul-le-mul_left count (let n : 65 ≤ more + 1 = omega (arith, many) in n) in
    let i : 65 ≤ count * 65 = omega (arith, some) in
    omega (arith, h, i)

-- ---- the variables of an alternative

-- one more name in front
pub one_in_front : (entries : List (Bytes × Values)) (at : ℕ) (entry : Bytes × Values) (place left : ℕ) (pairs : List (Text × Text)) → slice_get entries at ≡ Some entry
    → chosen_from (givens_shown (drop (at + 1) entries)) place ≡ (reverse pairs, left)
    → chosen_from (givens_shown (drop at entries)) place ≡ (reverse (pairs ++ (entry.0.items, value_at (values_shown entry.1) (left % (length entry.1.others.items + 1))) ∷ []), left / (length entry.1.others.items + 1))
one_in_front entries at entry place left pairs there so_far =
    let n : length (values_shown entry.1).others ≡ length entry.1.others.items = length-map entry.1.others.items (λ w. w.items) in
    let one : ℕ → Text × Text = λ k. (entry.0.items, value_at (values_shown entry.1) (left % (k + 1))) in
    ap (λ (es : List (Bytes × Values)). chosen_from (givens_shown es) place) (drop-at entries at entry there)
    ∙ ap (onto_chosen (entry.0.items, values_shown entry.1)) so_far
    ∙ ap (λ k. (one k ∷ reverse pairs, left / (k + 1))) n
    ∙ ap (λ ps. (ps, left / (length entry.1.others.items + 1))) (sym (reverse-append pairs (one (length entry.1.others.items) ∷ [])))
