-- From which boots a goal is reached. A boot is here its place, from 0 on. A link leads from a boot to one that follows
-- it. Ours.
use Rattle.std.specs.Prelude.{◌≡◌, ◌<◌, ℕ, suc, Bool, true, false, List, length, map, Option, Some, None, slice_get}
use Rattle.std.specs.List.{All, Contains}
use Rattle.std.specs.declared.alloc.Global.{Global}
use Rattle.std.specs.declared.vec.Vec.{Vec}

-- the links of each boot, in vectors
abbrev pub lists_of : List (Vec ℕ Global) → List (List ℕ)
lists_of vectors = map (λ v. v.items) vectors

-- each link leads to one of so many places
abbrev pub AreInside : (count : ℕ) → (links : List (List ℕ)) → Type 0
AreInside count links = All (All (λ next. next < count)) links

-- So many boots or fewer, from the one at this place on, lead to a goal. The goal is one of them.
pub data Leads (goals : List Bool) (links : List (List ℕ)) : (count place : ℕ) → Type 0 where
  ends : (count place : ℕ) → slice_get goals place ≡ Some true → Leads goals links (suc count) place
  goes_on : (count place next : ℕ) (after : List ℕ) → slice_get links place ≡ Some after → Contains after next →
      Leads goals links count next → Leads goals links (suc count) place

-- within a number of boots, if there is one
abbrev pub LeadsWithin : (goals : List Bool) → (links : List (List ℕ)) → (within : Option ℕ) → (place : ℕ) → Type 0
LeadsWithin goals links None place = (count : ℕ) × Leads goals links count place
LeadsWithin goals links (Some count) place = Leads goals links count place

-- a mark for each boot: true if it leads to a goal, and false if it does not
pub record AreMarked (goals : List Bool) (links : List (List ℕ)) (within : Option ℕ) (marks : List Bool) : Type 0 where
  pub each : length marks ≡ length goals
  pub leads : (place : ℕ) → slice_get marks place ≡ Some true → LeadsWithin goals links within place
  pub fails : (place : ℕ) → slice_get marks place ≡ Some false → LeadsWithin goals links within place → ⊥
