-- How boots that lead to a goal are found: back from the goals, by one boot more with each round. Ours.
use Rattle.std.specs.Prelude.{◌≡◌, ◌+◌, ◌⊎◌, ℕ, Bool, true, false, not, List, [], length, slice_get, slice_index_or, Some}
use Rattle.std.specs.List.{Contains, count_by, flat_map}
use Rattle.rehearse_boots.specs.Leading.{Leads}

-- a link leads from one place to another
abbrev pub HasLink : (links : List (List ℕ)) → (from to : ℕ) → Type 0
HasLink links from to = Contains (slice_index_or links from []) to

-- links back to one place are added from each of these
pub record AddsBack (from : ℕ) (places : List ℕ) (old new : List (List ℕ)) : Type 0 where
  pub each : length new ≡ length old
  pub kept : (place to : ℕ) → HasLink old place to → HasLink new place to
  pub all : (place : ℕ) → Contains places place → HasLink new place from
  pub only : (place to : ℕ) → HasLink new place to → HasLink old place to ⊎ ((to ≡ from) × Contains places place)

-- each link is turned round
pub record AreTurned (count : ℕ) (links back : List (List ℕ)) : Type 0 where
  pub each : length back ≡ count
  pub all : (from to : ℕ) → HasLink links from to → HasLink back to from
  pub only : (from to : ℕ) → HasLink back to from → HasLink links from to

-- it has a mark
abbrev pub IsMarked : (marks : List Bool) → (place : ℕ) → Type 0
IsMarked marks place = slice_index_or marks place false ≡ true

-- the number of places without a mark
abbrev pub unmarked : (marks : List Bool) → ℕ
unmarked marks = count_by not marks

-- the places with a mark, and no others
pub record AreTheMarked (marks : List Bool) (places : List ℕ) : Type 0 where
  pub all : (place : ℕ) → IsMarked marks place → Contains places place
  pub only : (place : ℕ) → Contains places place → IsMarked marks place

-- these places get marks, and those that had none are found
pub record Marks (places : List ℕ) (old new : List Bool) (known found : List ℕ) : Type 0 where
  pub each : length new ≡ length old
  pub kept : (place : ℕ) → IsMarked old place → IsMarked new place
  pub all : (place : ℕ) → Contains places place → IsMarked new place
  pub only : (place : ℕ) → IsMarked new place → IsMarked old place ⊎ Contains places place
  pub found_all : (place : ℕ) → IsMarked new place → IsMarked old place ⊎ Contains found place
  pub found_only : (place : ℕ) → Contains found place → Contains known place ⊎ IsMarked new place
  pub found_kept : (place : ℕ) → Contains known place → Contains found place
  pub fewer : unmarked new + length found ≡ unmarked old + length known

-- the places with a link to one of these, by the links that are turned round
abbrev pub places_before : (back : List (List ℕ)) → (places : List ℕ) → List ℕ
places_before back places = flat_map (λ place. slice_index_or back place []) places

-- The places from which so many boots or fewer lead to a goal are marked. Each of them is among the latest, or all places
-- with a link to it are marked.
pub record AreFound (goals : List Bool) (links : List (List ℕ)) (count : ℕ) (marks : List Bool) (latest : List ℕ) : Type 0 where
  pub each : length marks ≡ length goals
  pub goal : (place : ℕ) → slice_get goals place ≡ Some true → IsMarked marks place
  pub leads : (place : ℕ) → IsMarked marks place → Leads goals links count place
  pub all : (place : ℕ) → Leads goals links count place → IsMarked marks place
  pub before : (place next : ℕ) → HasLink links place next → IsMarked marks next → Contains latest next ⊎ IsMarked marks place
  pub marked : (place : ℕ) → Contains latest place → IsMarked marks place
