-- Outcomes that come many times in a row.
use Rattle.std.proofs.Common.{ℕ, zero, suc, ◌+◌, Bool, [], ◌∷◌, ◌++◌, refl, sym, ap, ◌∙◌, ◌≡◌, add-one}
use Rattle.rehearse_terms.specs.Outcomes.{Outcome, OutcomeWord}
use Rattle.rehearse_rules.specs.Execution.{outcome_when}
use Rattle.rehearse_states.specs.Repeats.{repeated}

pub repeated_before : (again : ℕ) (outcome : Outcome) (w : OutcomeWord) → repeated again outcome [] ++ w ≡ repeated again outcome w
repeated_before zero outcome w = refl
repeated_before (suc again) outcome w = ap (λ (x : OutcomeWord). outcome ∷ x) (repeated_before again outcome w)

pub one_more : (again : ℕ) (outcome : Outcome) → repeated again outcome [] ++ outcome ∷ [] ≡ repeated (again + 1) outcome []
one_more again outcome = by again ∙ ap (λ (n : ℕ). repeated n outcome []) (sym (add-one again))
  where
    by : (n : ℕ) → repeated n outcome [] ++ outcome ∷ [] ≡ repeated (suc n) outcome []
    by zero = refl
    by (suc n) = ap (λ (x : OutcomeWord). outcome ∷ x) (by n)

-- a word that is longer by one
pub longer : (word rest behind self : OutcomeWord) (again times : ℕ) (first success : Bool) → word ≡ repeated again (outcome_when success) behind → again ≡ times + 1 → behind ≡ rest → first ≡ success → self ≡ repeated times (outcome_when first) rest → word ≡ outcome_when success ∷ self
longer word rest behind self again times first success made one same is whole =
    made
    ∙ ap (λ (n : ℕ). repeated n (outcome_when success) behind) (one ∙ add-one times)
    ∙ ap (λ (x : OutcomeWord). outcome_when success ∷ repeated times (outcome_when success) x) same
    ∙ ap (λ (b : Bool). outcome_when success ∷ repeated times (outcome_when b) rest) (sym is)
    ∙ ap (λ (x : OutcomeWord). outcome_when success ∷ x) (sym whole)
