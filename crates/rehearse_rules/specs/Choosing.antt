-- Which of the allowed runs is the first, and which one follows another. What is allowed of a run is allowed of each word
-- with which it starts. Ours.
use Rattle.std.specs.Prelude.{ℕ, zero, suc, pred, Bool, cond, false, ◌||◌, [], ◌∷◌, Option, Some, None, option_map}
use Rattle.rehearse_terms.specs.Outcomes.{OutcomeWord, Outcome, Success, Failure, WordKind, Run, Short, Long, beyond}

-- which words are allowed, after one outcome
abbrev pub allowed_beyond : Outcome → (OutcomeWord → Bool) → OutcomeWord → Bool
allowed_beyond outcome allowed w = allowed (outcome ∷ w)

-- the first answer that is allowed: success, or else failure
abbrev pub first_outcome : (allowed : OutcomeWord → Bool) → Outcome
first_outcome allowed = cond (allowed (Success ∷ [])) Success Failure

-- the first answer that is allowed at each device command
abbrev pub first_run : (allowed : OutcomeWord → Bool) → (OutcomeWord → WordKind) → ℕ → OutcomeWord
first_run allowed kind zero = []
first_run allowed kind (suc n) = elim (kind []) [
  | Run ↦ []
  | Long ↦ []
  | Short ↦ first_outcome allowed ∷ first_run (allowed_beyond (first_outcome allowed) allowed) (beyond (first_outcome allowed) kind) n
]

-- p, and the first answer that is allowed at each further device command
abbrev pub first_from : (allowed : OutcomeWord → Bool) → (OutcomeWord → WordKind) → ℕ → OutcomeWord → OutcomeWord
first_from allowed kind n [] = first_run allowed kind n
first_from allowed kind n (d ∷ p) = d ∷ first_from (allowed_beyond d allowed) (beyond d kind) (pred n) p

-- whether one of its successes may be a failure, while what comes before it stays
abbrev pub has_success : (allowed : OutcomeWord → Bool) → OutcomeWord → Bool
has_success allowed [] = false
has_success allowed (Success ∷ w) = allowed (Failure ∷ []) || has_success (allowed_beyond Success allowed) w
has_success allowed (Failure ∷ w) = has_success (allowed_beyond Failure allowed) w

-- the word cut after its last success that may be a failure, which becomes one; none if no success may be one
abbrev pub turned : (allowed : OutcomeWord → Bool) → OutcomeWord → Option OutcomeWord
turned allowed [] = None
turned allowed (Success ∷ w) =
    elim (turned (allowed_beyond Success allowed) w) [
      | Some v ↦ Some (Success ∷ v)
      | None ↦ cond (allowed (Failure ∷ [])) (Some (Failure ∷ [])) None
    ]
turned allowed (Failure ∷ w) = option_map (λ v. Failure ∷ v) (turned (allowed_beyond Failure allowed) w)
