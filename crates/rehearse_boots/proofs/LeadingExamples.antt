-- Worked examples: from which boots a goal is reached.
use Rattle.std.proofs.Common.{◌≡◌, ◌<◌, ℕ, zero, suc, Bool, true, false, List, [], ◌∷◌, Some, None, slice_get, refl, sym, subst, lit<, arith}
use Rattle.std.specs.List.{All, Contains}
use Rattle.std.proofs.lemmas.List.Elements.{All-cons, All-nil}
use Rattle.rehearse_boots.specs.Leading.{AreInside, AreMarked, Leads, LeadsWithin, ends, goes_on}
use Rattle.rehearse_boots.specs.LeadingRounds.{HasLink, IsMarked, places_before, unmarked}
use Rattle.rehearse_boots.proofs.LeadingLemmas.{contains_head, none_contained, one_contained}

-- the first boot leads to the second one, and that to the third one, which is a goal
abbrev chain : List (List ℕ)
chain = (1 ∷ []) ∷ (2 ∷ []) ∷ [] ∷ []

abbrev last_is_goal : List Bool
last_is_goal = false ∷ false ∷ true ∷ []

-- a boot that leads to a goal and is none leads to it by one that follows it
by_next : (goals : List Bool) (links : List (List ℕ)) (count place : ℕ) (after : List ℕ) → slice_get goals place ≡ Some false → slice_get links place ≡ Some after → Leads goals links (suc count) place → (next : ℕ) × Contains after next × Leads goals links count next
by_next goals links _ _ after fails is (ends count place goal) = absurd (let never : ⊥ = cc in never)
by_next goals links _ _ after fails is (goes_on count place next found link has lead) =
    let same : found ≡ after = cc in
    (next, subst (λ (list : List ℕ). Contains list next) same has, lead)

-- ---- a chain

-- a goal leads to itself within one boot, and not within none
goal_within_one : LeadsWithin last_is_goal chain (Some 1) 2
goal_within_one = ends 0 2 refl

goal_within_none : LeadsWithin last_is_goal chain (Some 0) 2 → ⊥
goal_within_none lead = elim lead [ ]

-- the one before it leads to it within two boots, and not within one
second_within_two : LeadsWithin last_is_goal chain (Some 2) 1
second_within_two = goes_on 1 1 2 (2 ∷ []) refl (contains_head 2 []) goal_within_one

second_within_one : LeadsWithin last_is_goal chain (Some 1) 1 → ⊥
second_within_one lead =
    let next = by_next last_is_goal chain 0 1 (2 ∷ []) refl refl lead in
    goal_within_none (subst (λ (place : ℕ). Leads last_is_goal chain 0 place) (sym (one_contained 2 next.0 next.1)) next.2)

-- the first one leads to it within three boots, and not within two
first_within_three : LeadsWithin last_is_goal chain (Some 3) 0
first_within_three = goes_on 2 0 1 (1 ∷ []) refl (contains_head 1 []) second_within_two

first_within_two : LeadsWithin last_is_goal chain (Some 2) 0 → ⊥
first_within_two lead =
    let next = by_next last_is_goal chain 1 0 (1 ∷ []) refl refl lead in
    second_within_one (subst (λ (place : ℕ). Leads last_is_goal chain 1 place) (sym (one_contained 1 next.0 next.1)) next.2)

-- without a number any number of boots will do
first_within_any : LeadsWithin last_is_goal chain None 0
first_within_any = (3, first_within_three)

-- the marks within two boots
within_two_leads : (place : ℕ) → slice_get (false ∷ true ∷ true ∷ []) place ≡ Some true → LeadsWithin last_is_goal chain (Some 2) place
within_two_leads zero is = absurd (let never : ⊥ = cc in never)
within_two_leads (suc zero) is = second_within_two
within_two_leads (suc (suc zero)) is = ends 1 2 refl
within_two_leads (suc (suc (suc place))) is = absurd (let never : ⊥ = cc in never)

within_two_fails : (place : ℕ) → slice_get (false ∷ true ∷ true ∷ []) place ≡ Some false → LeadsWithin last_is_goal chain (Some 2) place → ⊥
within_two_fails zero is lead = first_within_two lead
within_two_fails (suc zero) is lead = cc
within_two_fails (suc (suc zero)) is lead = cc
within_two_fails (suc (suc (suc place))) is lead = cc

marks_within_two : AreMarked last_is_goal chain (Some 2) (false ∷ true ∷ true ∷ [])
marks_within_two = record { each = refl; leads = within_two_leads; fails = within_two_fails }

-- its links lead to one of three places, and not to one of two
inside_three : AreInside 3 chain
inside_three =
    let P : List ℕ → Type 0 = All (λ next. next < 3) in
    let one : (n : ℕ) → n < 3 → P (n ∷ []) = λ n few. All-cons (λ next. next < 3) n [] few (All-nil (λ next. next < 3)) in
    All-cons P (1 ∷ []) ((2 ∷ []) ∷ [] ∷ []) (one 1 (lit< tt)) (All-cons P (2 ∷ []) ([] ∷ []) (one 2 (lit< tt)) (All-cons P [] [] (All-nil (λ next. next < 3)) (All-nil P)))

inside_two : AreInside 2 chain → ⊥
inside_two inside = let few : 2 < 2 = inside 1 [] (lit< tt) 0 0 (lit< tt) in omega arith

-- ---- two boots that follow each other, beside a goal

abbrev cycle : List (List ℕ)
cycle = (1 ∷ []) ∷ (0 ∷ []) ∷ [] ∷ []

abbrev goal_beside : List Bool
goal_beside = false ∷ false ∷ true ∷ []

-- no link leads to the goal
none_to_goal : (place : ℕ) (after : List ℕ) → slice_get cycle place ≡ Some after → Contains after 2 → ⊥
none_to_goal zero after is has = let same : after ≡ 1 ∷ [] = cc in let one = one_contained 1 2 (subst (λ (list : List ℕ). Contains list 2) same has) in omega (arith, one)
none_to_goal (suc zero) after is has = let same : after ≡ 0 ∷ [] = cc in let one = one_contained 0 2 (subst (λ (list : List ℕ). Contains list 2) same has) in omega (arith, one)
none_to_goal (suc (suc zero)) after is has = let same : after ≡ [] = cc in none_contained 2 (subst (λ (list : List ℕ). Contains list 2) same has)
none_to_goal (suc (suc (suc place))) after is has = let never : ⊥ = cc in never

goal_at : (place : ℕ) → slice_get goal_beside place ≡ Some true → place ≡ 2
goal_at zero is = absurd (let never : ⊥ = cc in never)
goal_at (suc zero) is = absurd (let never : ⊥ = cc in never)
goal_at (suc (suc zero)) is = refl
goal_at (suc (suc (suc place))) is = absurd (let never : ⊥ = cc in never)

-- so no number of boots leads to it, but from itself
only_goal : (count place : ℕ) → Leads goal_beside cycle count place → place ≡ 2
only_goal _ _ (ends count place is) = goal_at place is
only_goal _ _ (goes_on count place next after link has lead) =
    absurd (none_to_goal place after link (subst (λ (n : ℕ). Contains after n) (only_goal count next lead) has))

in_cycle : LeadsWithin goal_beside cycle None 0 → ⊥
in_cycle lead = let same = only_goal lead.0 0 lead.1 in omega (arith, same)

-- ---- rounds

marked : IsMarked (false ∷ true ∷ []) 1
marked = refl

unmarked_two : unmarked (true ∷ false ∷ false ∷ []) ≡ 2
unmarked_two = refl

link : HasLink chain 1 2
link = contains_head 2 []

no_link : HasLink chain 2 2 → ⊥
no_link has = none_contained 2 has

-- the places before each of these, one after another, as often as there is a link
before_each : places_before ((2 ∷ []) ∷ (0 ∷ 2 ∷ []) ∷ [] ∷ []) (1 ∷ 0 ∷ []) ≡ 0 ∷ 2 ∷ 2 ∷ []
before_each = refl
