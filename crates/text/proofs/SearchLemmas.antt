-- A byte that is not in a text.
use Rattle.std.proofs.Common.{◌≡◌, ℕ, suc, ◌<◌, Bool, true, false, nat_lt, inl, inr, List, [], ◌∷◌, length, get_or, None, Some, refl, arith}
use Rattle.std.specs.List.{position, position_or_len, list_any}
use Rattle.std.proofs.lemmas.Bool.Decides.{nat_tests}
use Rattle.std.proofs.lemmas.List.Sums.{fails_before_first}
use Rattle.std.proofs.lemmas.Bool.{cases_lt}

list_any-none : (p : ℕ → Bool) (bytes : List ℕ) → ((k : ℕ) → k < length bytes → p (get_or bytes k 0) ≡ false) → list_any p bytes ≡ false
list_any-none p [] f = refl
list_any-none p (b ∷ bs) f =
    rw (f 0 (omega arith)) (list_any-none p bs (λ k h. f (suc k) (omega arith)))

pub position-none : (p : ℕ → Bool) (bytes : List ℕ) → position p bytes ≡ None → list_any p bytes ≡ false
position-none p bytes e =
    elim (cases_lt (position_or_len p bytes) (length bytes)) [
      | inl found ↦ let below : nat_lt (position_or_len p bytes) (length bytes) ≡ true = grind (arith, nat_tests) in
          let some : position p bytes ≡ Some (position_or_len p bytes) = rw below refl in cc
      | inr past ↦ list_any-none p bytes (λ k h. fails_before_first p bytes k 0 (omega arith))
    ]
