-- A draft of a list of variables. Variables are written one after another, and the index says for each name at which place
-- the variable is that holds, if there is one. Ours.
use Rattle.std.specs.Prelude.{◌≡◌, ℕ, suc, Bool, false, true, ◌==◌, List, [], ◌∷◌, Option, None, Some, if◌then◌else◌, slice_get}
use Rattle.std.specs.Map.{lookup}
use Rattle.std.specs.Borrow.{Bor}
use Rattle.envimage.specs.Data.{Pair}
use Rattle.envtools.specs.Environment.{same, IsEnvironment}

-- a deleted name stays in the index, without a place
abbrev pub place_in : Option (Option ℕ) → Option ℕ
place_in None = None
place_in (Some place) = place

-- the place of a name
abbrev pub place_of : List (Bor (List ℕ) × Option ℕ) → List ℕ → Option ℕ
place_of places name = place_in (lookup (λ key. same name key.now) places)

abbrev pub is_place : Option ℕ → ℕ → Bool
is_place None at = false
is_place (Some place) at = place == at

-- the variables of a list that hold, when the first of the list is at the place `at`
abbrev pub held : (List ℕ → Option ℕ) → ℕ → List Pair → List Pair
held place at [] = []
held place at (p ∷ ps) = if is_place (place p.0) at then p ∷ held place (suc at) ps else held place (suc at) ps

-- one name's place changes
abbrev pub IsMoved : (List ℕ → Option ℕ) → List ℕ → Option ℕ → (List ℕ → Option ℕ) → Type 0
IsMoved old name place new = (other : List ℕ) → new other ≡ (if same other name then place else old other)

abbrev pub IsNamed : List ℕ → Option Pair → Type 0
IsNamed name None = ⊥
IsNamed name (Some p) = same name p.0 ≡ true

pub record IsDraft (place : List ℕ → Option ℕ) (written : List Pair) : Type 0 where
  pub placed : (name : List ℕ) (at : ℕ) → place name ≡ Some at → IsNamed name (slice_get written at)
  pub sound : IsEnvironment (held place 0 written)
