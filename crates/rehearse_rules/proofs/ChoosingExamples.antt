-- Worked examples, computed: which of the allowed runs is the first, and which one follows another.
use Rattle.std.proofs.Common.{◌≡◌, ℕ, suc, true, false, Bool, [], ◌∷◌, Some, None, refl, map, filter, nat_le}
use Rattle.rehearse_terms.specs.Outcomes.{Success, Failure, OutcomeWord, WordKind, Run, Short, Long, failures, runs_within}
use Rattle.rehearse_rules.specs.Choosing.{first_outcome, first_run, first_from, has_success, turned}

-- ---- where failures count

abbrev few : ℕ → OutcomeWord → Bool
few most w = nat_le (failures w) most

abbrev any : OutcomeWord → Bool
any w = true

-- the last success may be a failure; only the first may; none may
turned_last : turned (few 2) (Success ∷ Failure ∷ Success ∷ []) ≡ Some (Success ∷ Failure ∷ Failure ∷ [])
turned_last = refl

turned_first : turned (few 1) (Success ∷ Failure ∷ Success ∷ []) ≡ Some (Failure ∷ [])
turned_first = refl

turned_none : turned (few 1) (Failure ∷ Success ∷ []) ≡ None
turned_none = refl

turned_allowed : turned (few 2) (Failure ∷ Success ∷ []) ≡ Some (Failure ∷ Failure ∷ [])
turned_allowed = refl

-- where no success is left, or none may be a failure
turned_empty : turned any [] ≡ None
turned_empty = refl

turned_failures : turned any (Failure ∷ Failure ∷ []) ≡ None
turned_failures = refl

turned_forbidden : turned (few 0) (Success ∷ Success ∷ []) ≡ None
turned_forbidden = refl

-- any number may be: what is after the last success goes
turned_any : turned any (Success ∷ Failure ∷ Success ∷ Failure ∷ []) ≡ Some (Success ∷ Failure ∷ Failure ∷ [])
turned_any = refl

-- whether one of them may be
may_turn : has_success (few 1) (Success ∷ Failure ∷ Success ∷ []) ∷ has_success (few 1) (Failure ∷ Success ∷ []) ∷ has_success (few 2) (Failure ∷ Success ∷ []) ∷ has_success any (Failure ∷ Success ∷ []) ∷ has_success any (Failure ∷ []) ∷ has_success (few 0) (Success ∷ []) ∷ []
    ≡ true ∷ false ∷ true ∷ true ∷ false ∷ false ∷ []
may_turn = refl

-- ---- where a failure of the first of two commands is expected, so that its success counts

abbrev counted : OutcomeWord → ℕ
counted [] = 0
counted (Success ∷ w) = suc (failures w)
counted (Failure ∷ w) = failures w

abbrev up_to : ℕ → OutcomeWord → Bool
up_to most w = nat_le (counted w) most

abbrev two : OutcomeWord → WordKind
two [] = Short
two (c ∷ []) = Short
two (c ∷ d ∷ []) = Run
two (c ∷ d ∷ e ∷ w) = Long

-- what may be is in dictionary order, with the digits as they are
allowed_runs : map (λ most. filter (up_to most) (runs_within two 2)) (0 ∷ 1 ∷ 2 ∷ [])
    ≡ ((Failure ∷ Success ∷ []) ∷ []) ∷ ((Success ∷ Success ∷ []) ∷ (Failure ∷ Success ∷ []) ∷ (Failure ∷ Failure ∷ []) ∷ [])
    ∷ ((Success ∷ Success ∷ []) ∷ (Success ∷ Failure ∷ []) ∷ (Failure ∷ Success ∷ []) ∷ (Failure ∷ Failure ∷ []) ∷ []) ∷ []
allowed_runs = refl

-- the first one fails where its success may not be
first_of_them : map (λ most. first_run (up_to most) two 2) (0 ∷ 1 ∷ 2 ∷ []) ≡ (Failure ∷ Success ∷ []) ∷ (Success ∷ Success ∷ []) ∷ (Success ∷ Success ∷ []) ∷ []
first_of_them = refl

first_answers : map (λ most. first_outcome (up_to most)) (0 ∷ 1 ∷ []) ≡ Failure ∷ Success ∷ []
first_answers = refl

-- the second one may not fail after the first has succeeded, but after it has failed
follow_each_other : turned (up_to 1) (Success ∷ Success ∷ []) ∷ turned (up_to 1) (Failure ∷ Success ∷ []) ∷ turned (up_to 1) (Failure ∷ Failure ∷ []) ∷ turned (up_to 0) (Failure ∷ Success ∷ []) ∷ []
    ≡ Some (Failure ∷ []) ∷ Some (Failure ∷ Failure ∷ []) ∷ None ∷ None ∷ []
follow_each_other = refl

then_first : first_from (up_to 1) two 2 (Failure ∷ []) ≡ Failure ∷ Success ∷ []
then_first = refl

success_left : has_success (up_to 1) (Success ∷ Success ∷ []) ∷ has_success (up_to 1) (Failure ∷ Failure ∷ []) ∷ has_success (up_to 0) (Failure ∷ Success ∷ []) ∷ [] ≡ true ∷ false ∷ false ∷ []
success_left = refl
