-- Outcome words: what the device commands of a run answered, in their order. Ours.
use Rattle.std.specs.Prelude.{ℕ, zero, suc, Bool, true, false, cond, ◌&&◌, List, [], ◌∷◌, ◌++◌, map, filter, ◌≡◌, ◌⊎◌}

-- what a device command answers, printed as `0` and `1`
pub data Outcome : Type 0 where
  Success Failure : Outcome

abbrev pub OutcomeWord : Type 0
OutcomeWord = List Outcome

-- the words of at most n outcomes in dictionary order, success before failure
abbrev pub words : ℕ → List OutcomeWord
words zero = [] ∷ []
words (suc n) = [] ∷ map (λ w. Success ∷ w) (words n) ++ map (λ w. Failure ∷ w) (words n)

-- a run takes the word exactly; or a device command finds no outcome left; or outcomes are left over
pub data WordKind : Type 0 where
  Run Short Long : WordKind

abbrev pub is_run_kind : WordKind → Bool
is_run_kind Run = true
is_run_kind Short = false
is_run_kind Long = false

-- the words of at most n outcomes that are runs, in dictionary order
abbrev pub runs_within : (OutcomeWord → WordKind) → ℕ → List OutcomeWord
runs_within kind n = filter (λ w. is_run_kind (kind w)) (words n)

-- how many device commands failed
abbrev pub failures : OutcomeWord → ℕ
failures [] = 0
failures (Success ∷ w) = failures w
failures (Failure ∷ w) = suc (failures w)

abbrev pub outcome_eq : Outcome → Outcome → Bool
outcome_eq Success Success = true
outcome_eq Failure Failure = true
outcome_eq Success Failure = false
outcome_eq Failure Success = false

abbrev pub word_eq : OutcomeWord → OutcomeWord → Bool
word_eq [] [] = true
word_eq [] (d ∷ w) = false
word_eq (c ∷ v) [] = false
word_eq (c ∷ v) (d ∷ w) = outcome_eq c d && word_eq v w

-- what is after w in a list
abbrev pub after : OutcomeWord → List OutcomeWord → List OutcomeWord
after w [] = []
after w (v ∷ vs) = cond (word_eq v w) vs (after w vs)

-- the prefix that two words share
abbrev pub common_prefix : OutcomeWord → OutcomeWord → OutcomeWord
common_prefix [] w = []
common_prefix (c ∷ v) [] = []
common_prefix (c ∷ v) (d ∷ w) = cond (outcome_eq c d) (c ∷ common_prefix v w) []

-- dictionary order, success before failure
abbrev pub comes_before : OutcomeWord → OutcomeWord → Bool
comes_before [] [] = false
comes_before [] (d ∷ w) = true
comes_before (c ∷ v) [] = false
comes_before (Success ∷ v) (Success ∷ w) = comes_before v w
comes_before (Success ∷ v) (Failure ∷ w) = true
comes_before (Failure ∷ v) (Success ∷ w) = false
comes_before (Failure ∷ v) (Failure ∷ w) = comes_before v w

-- ---- in which words the laws say what follows a run

-- the kinds of words, after one outcome
abbrev pub beyond : Outcome → (OutcomeWord → WordKind) → OutcomeWord → WordKind
beyond outcome kind w = kind (outcome ∷ w)

-- kinds of words that come from choices, at most n of them one after another: either the run ends here, or each outcome
-- leads on
abbrev pub IsChoice : ℕ → (OutcomeWord → WordKind) → Type 0
IsChoice zero kind = (kind [] ≡ Run) × ((d : Outcome) (w : OutcomeWord) → kind (d ∷ w) ≡ Long)
IsChoice (suc n) kind = ((kind [] ≡ Run) × ((d : Outcome) (w : OutcomeWord) → kind (d ∷ w) ≡ Long))
    ⊎ ((kind [] ≡ Short) × ((d : Outcome) → IsChoice n (beyond d kind)))
