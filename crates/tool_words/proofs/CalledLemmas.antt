-- The last part of a path, by the place of its last slash.
use Rattle.std.proofs.Common.{◌≡◌, ◌≢◌, ◌==◌, ◌+◌, ◌-◌, ◌<◌, ◌≤◌, ℕ, not, List, length, get_or, drop, All, arith, ap}
use Rattle.std.specs.List.{suffix_len}
use Rattle.std.proofs.lemmas.Bool.{eq-eqb, ne_eqb}
use Rattle.std.proofs.lemmas.List.Sums.{suffix_len_is}
use Rattle.tool_words.specs.Called.{last_part, slash}

-- no slash from place n on, and one before it
part_from : (path : List ℕ) (n : ℕ) → n ≤ length path → ((k : ℕ) → n ≤ k → k < length path → get_or path k 0 ≢ slash) → (0 < n → get_or path (n - 1) 0 ≡ slash)
    → drop n path ≡ last_part path
part_from path n within none here =
    let behind : suffix_len (λ c. not (c == slash)) path ≡ length path - n = suffix_len_is (λ c. not (c == slash)) path n 0 within
    (λ k from to. ap not (ne_eqb (get_or path k 0) slash (none k from to)))
    (λ above. ap not (eq-eqb (get_or path (n - 1) 0) slash (here above))) in
    let place : n ≡ length path - suffix_len (λ c. not (c == slash)) path = omega (arith, behind, within) in
    ap (λ m. drop m path) place

-- after the last slash
pub part_behind : (path : List ℕ) (i : ℕ) → i < length path → get_or path i 0 ≡ slash → ((k : ℕ) → i + 1 ≤ k → k < length path → get_or path k 0 ≢ slash)
    → drop (i + 1) path ≡ last_part path
part_behind path i inside here none =
    part_from path (i + 1) (omega (arith, inside)) none (λ above. let one : i + 1 - 1 ≡ i = omega arith in rw one here)

-- if there is no slash
pub part_whole : (path : List ℕ) → All (λ c. c ≢ slash) path → path ≡ last_part path
part_whole path none = part_from path 0 (omega arith) (λ k from to. none k 0 to) (λ above. absurd (omega (arith, above)))
