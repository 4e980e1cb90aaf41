-- Outcomes that come many times in a row. Ours.
use Rattle.std.specs.Prelude.{◌≡◌, ℕ, zero, suc, ◌+◌, ◌∷◌, length}
use Rattle.std.proofs.Common.{arith}
use Rattle.rehearse_terms.specs.Outcomes.{OutcomeWord, Outcome}

-- an outcome, the same this many more times, and a word
abbrev pub repeated : (again : ℕ) → Outcome → OutcomeWord → OutcomeWord
repeated zero outcome w = outcome ∷ w
repeated (suc again) outcome w = outcome ∷ repeated again outcome w

pub length-repeated : (again : ℕ) (outcome : Outcome) (w : OutcomeWord) → length (repeated again outcome w) ≡ suc again + length w
length-repeated zero outcome w = omega arith
length-repeated (suc again) outcome w = let h = length-repeated again outcome w in omega arith
