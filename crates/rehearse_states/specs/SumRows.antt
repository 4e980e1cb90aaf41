-- The rows of nodes while they are made, in the order of the nodes. Those of a node are kept until the last node that
-- is made of them. Ours.
use Rattle.std.specs.Prelude.{◌≡◌, ℕ, ◌<◌, ◌≤◌, List, map, Bool, true, Some, length, Vec, ◌⊎◌}
use Rattle.std.specs.List.{slice_get}
use Rattle.std.specs.declared.alloc.Global.{Global}
use Rattle.rehearse_states.specs.Endings.{Row}
use Rattle.rehearse_states.specs.RowsShown.{rows_shown}
use Rattle.rehearse_states.specs.SumNodes.{SumNode, Over, Both, DrawsRows}
use Rattle.rehearse_states.specs.declared.rows.Row as rt

abbrev pub made_shown : Vec (Vec rt.Row Global) Global → List (List Row)
made_shown made = map rows_shown made.items

-- the node is made of the rows of this place
abbrev pub IsMadeOf : SumNode → (place : ℕ) → Type 0
IsMadeOf (Over run_end) place = ⊥
IsMadeOf (Both expected won lost) place = (place ≡ won) ⊎ (place ≡ lost)

-- the last use of the rows of the place is at this node or at a later one
abbrev pub IsUsedAt : (last : List ℕ) → (place at : ℕ) → Type 0
IsUsedAt last place at = (latest : ℕ) × (slice_get last place ≡ Some latest) × (at ≤ latest)

-- so it is for each place of which the node is made
abbrev pub UsesAt : SumNode → (last : List ℕ) → (at : ℕ) → Type 0
UsesAt node last at = (place : ℕ) → IsMadeOf node place → place < at → IsUsedAt last place at

-- and for each of the first nodes
abbrev pub AreUses : List SumNode → (last : List ℕ) → (count : ℕ) → Type 0
AreUses sums last count = (at : ℕ) → at < count → (node : SumNode) → slice_get sums at ≡ Some node → UsesAt node last at

-- the rows of the first nodes are made, as far as they are used later
pub record AreMade (sums : List SumNode) (last : List ℕ) (at : ℕ) (made : List (List Row)) : Type 0 where
  pub many : length made ≡ at
  pub kept : (place : ℕ) → place < at → (rows : List Row) → IsUsedAt last place at → DrawsRows sums place rows → slice_get made place ≡ Some rows

-- what else is made stays, and the rows of this place, if they are kept
abbrev pub Leaves : (keep : Bool) → (place : ℕ) → (old new : List (List Row)) → Type 0
Leaves keep place old new = (length new ≡ length old) × ((other : ℕ) → (other ≡ place → keep ≡ true) → slice_get new other ≡ slice_get old other)

-- what is used later stays
abbrev pub LeavesUsed : (last : List ℕ) → (at : ℕ) → (old new : List (List Row)) → Type 0
LeavesUsed last at old new = (length new ≡ length old) × ((place : ℕ) → IsUsedAt last place at → slice_get new place ≡ slice_get old place)
