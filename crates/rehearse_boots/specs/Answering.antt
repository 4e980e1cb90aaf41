-- How the answer is made of boots that were explored. Ours.
use Rattle.std.specs.Prelude.{◌≡◌, ℕ, ◌+◌, ◌-◌, ◌≤◌, Bool, true, false, not, List, [], ◌∷◌, ◌++◌, length, map, Option, Some, None}
use Rattle.std.specs.List.{flat_map, position, slice_get}
use Rattle.std.specs.Option.{option_and_then}
use Rattle.rehearse_boots.specs.Boots.{Asked, Kept}
use Rattle.rehearse_boots.specs.BootLines.{all_line, head_text}
use Rattle.rehearse_boots.specs.Expecting.{lost_line}
use Rattle.rehearse_boots.specs.Leading.{AreInside, AreMarked}
use Rattle.rehearse_boots.specs.Ways.{Way, clean_numbers, has_goal}
use Rattle.rehearse_boots.specs.declared.found.FoundBy.{FoundBy}
use Rattle.rehearse_terms.specs.State.{Text}

-- the places to which ways lead in which nothing fails: a boot's number is its place and one
abbrev pub clean_places : List Way → List ℕ
clean_places ways = map (λ n. n - 1) (clean_numbers ways)

-- ---- lines

-- those of the boot at a place, if there is one
abbrev pub text_at : Asked → (place : ℕ) → Option Kept → (lines : Text) → Text
text_at asked place None lines = []
text_at asked place (Some kept) lines = head_text asked (place + 1) kept ++ lines

abbrev pub one_text : Asked → List Kept → (place : ℕ) → List Way → Text
one_text asked boots place ways = text_at asked place (slice_get boots place) (flat_map (λ w. w.lines) ways)

-- those of the boot on a way, with the ending that leads on, if they are there
abbrev pub step_at : Asked → (place : ℕ) → Option Kept → Option Way → Text
step_at asked place kept None = []
step_at asked place kept (Some way) = text_at asked place kept way.lines

abbrev pub way_at : List (List Way) → FoundBy → Option Way
way_at graph by = option_and_then (λ ways. slice_get ways by.way) (slice_get graph by.place)

abbrev pub step_text : Asked → List Kept → List (List Way) → FoundBy → Text
step_text asked boots graph by = step_at asked by.place (slice_get boots by.place) (way_at graph by)

-- ---- the way to a boot

-- each boot was found from one before it
abbrev pub GoesBack : List FoundBy → Type 0
GoesBack found = (place : ℕ) (by : FoundBy) → slice_get found place ≡ Some by → by.place ≤ place

-- these lead from the boot at one place to the one at another
abbrev pub IsWalk : (found : List FoundBy) → (walk : List FoundBy) → (at place : ℕ) → Type 0
IsWalk found [] at place = at ≡ place
IsWalk found (by ∷ walk) at place =
    (by.place ≡ at) × (next : ℕ) × (slice_get found next ≡ Some by) × IsWalk found walk (next + 1) place

-- ---- the answer

-- each way in which nothing fails leads to a place of the graph
abbrev pub AreWithin : List (List Way) → Type 0
AreWithin graph = AreInside (length graph) (map clean_places graph)

-- what is known of boots that were explored, without how each starts
pub record IsWellExplored (boots : List Kept) (found : List FoundBy) (graph : List (List Way)) : Type 0 where
  pub within : AreWithin graph
  pub back : GoesBack found
  pub count : length found + 1 ≡ length boots
  pub whole : length graph ≡ length boots

-- the lines of the boot at a place, and the line that it does not lead on
abbrev pub lost_boot : Asked → List Kept → (place : ℕ) → Option (List Way) → Text
lost_boot asked boots place None = lost_line (place + 1)
lost_boot asked boots place (Some ways) = one_text asked boots place ways ++ lost_line (place + 1)

abbrev pub lost_text : Asked → List Kept → List (List Way) → (place : ℕ) → Text
lost_text asked boots graph place = lost_boot asked boots place (slice_get graph place)

pub record IsLostAnswer (asked : Asked) (boots : List Kept) (found : List FoundBy) (graph : List (List Way)) (place : ℕ) (text : Text) : Type 0 where
  pub walk : List FoundBy
  pub is : IsWalk found walk 0 place
  pub lines : text ≡ flat_map (step_text asked boots graph) walk ++ lost_text asked boots graph place

-- by the graph alone: no boot is lost, or this is the first
abbrev pub IsGraphAnswerBy : Asked → List Kept → List FoundBy → List (List Way) → (lost : Option ℕ) → (text : Text) → (holds : Bool) → Type 0
IsGraphAnswerBy asked boots found graph None text holds = (text ≡ all_line boots) × (holds ≡ true)
IsGraphAnswerBy asked boots found graph (Some place) text holds = IsLostAnswer asked boots found graph place text × (holds ≡ false)

pub record IsGraphAnswer (asked : Asked) (within : Option ℕ) (boots : List Kept) (found : List FoundBy) (graph : List (List Way)) (text : Text) (holds : Bool) : Type 0 where
  pub leads : List Bool
  pub marked : AreMarked (map has_goal graph) (map clean_places graph) within leads
  pub answer : IsGraphAnswerBy asked boots found graph (position not leads) text holds
