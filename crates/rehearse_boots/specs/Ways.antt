-- The ways that lead from boots to others, by numbers, as they are kept while boots are explored. Ours.
use Rattle.std.specs.Prelude.{◌≡◌, ℕ, ◌+◌, ◌<◌, Bool, false, List, [], ◌∷◌, map, filter, length, Option, Some, None, option_map, Contains}
use Rattle.std.specs.List.{flat_map, list_any, slice_get}
use Rattle.std.specs.Option.{option_to_list}
use Rattle.std.specs.Prelude.{◌&&◌}
use Rattle.rehearse_boots.specs.Boots.{Asked, Boot, Expected, Kept, Next, StartOf, boot_of, next_of, number_of, ways_of}
use Rattle.rehearse_boots.specs.BootLines.{way_lines_to}
use Rattle.rehearse_boots.specs.Expecting.{is_clean, is_expected}
use Rattle.rehearse_boots.specs.declared.found.FoundBy.{FoundBy}
use Rattle.rehearse_boots.specs.declared.way.Way as rt
use Rattle.rehearse_rules.specs.Expected.{Answered}
use Rattle.rehearse_states.specs.EndingLines.{failing}
use Rattle.rehearse_states.specs.Endings.{Row}
use Rattle.rehearse_terms.specs.Outcomes.{OutcomeWord}
use Rattle.rehearse_terms.specs.State.{Text}

-- an ending that is followed: its lines, the numbers of the boots after it, whether nothing fails, and whether it is expected
pub record Way : Type 0 where
  pub lines : Text
  pub next : ℕ
  pub changed : Option ℕ
  pub is_clean : Bool
  pub is_expected : Bool

abbrev pub way_shown : rt.Way → Way
way_shown w = record {
  lines = w.lines.items;
  next = w.next;
  changed = w.changed;
  is_clean = w.is_clean;
  is_expected = w.is_expected;
}

abbrev pub numbers : Way → List ℕ
numbers w = w.next ∷ option_to_list w.changed

abbrev pub is_met : Asked → Option Expected → Row → Bool
is_met asked None r = false
is_met asked (Some expected) r = is_expected asked expected r

abbrev pub way_to : Asked → List Kept → (fails : OutcomeWord → List Answered) → Row → Next → Way
way_to asked boots fails r next = record {
  lines = way_lines_to asked boots fails r next;
  next = number_of boots next.saved;
  changed = option_map (number_of boots) next.changed;
  is_clean = is_clean r;
  is_expected = is_met asked asked.expected r;
}

abbrev pub way_of : Asked → List Kept → (saved : Kept) → (fails : OutcomeWord → List Answered) → Row → Way
way_of asked boots saved fails r = way_to asked boots fails r (next_of asked saved r)

-- the ways from a boot
abbrev pub ways_in : Asked → List Kept → Option Boot → List Way
ways_in asked boots None = []
ways_in asked boots (Some b) = map (way_of asked boots b.saved (failing b.task)) (ways_of asked b.task)

-- those of each of these boots, which are some of all
abbrev pub graph_of : StartOf → Asked → (all some : List Kept) → List (List Way)
graph_of start_of asked all some = map (λ kept. ways_in asked all (boot_of start_of asked kept)) some

-- ---- by which way a boot was found

-- the boot at this place was found by a way from one before it
pub record IsFoundBy (graph : List (List Way)) (place : ℕ) (by : FoundBy) : Type 0 where
  pub before : by.place < place
  pub ways : List Way
  pub way : Way
  pub there : slice_get graph by.place ≡ Some ways
  pub is : slice_get ways by.way ≡ Some way
  pub leads : Contains (numbers way) (place + 1)

-- each boot but the first
pub record AreFoundBy (graph : List (List Way)) (boots : List Kept) (found_by : List FoundBy) : Type 0 where
  pub count : length found_by + 1 ≡ length boots
  pub each : (place : ℕ) (by : FoundBy) → slice_get found_by place ≡ Some by → IsFoundBy graph (place + 1) by

-- ---- the ways in which nothing fails

abbrev pub is_goal : Way → Bool
is_goal w = w.is_clean && w.is_expected

-- whether one of them has the ending that is expected
abbrev pub has_goal : List Way → Bool
has_goal ways = list_any is_goal ways

abbrev pub clean_ways : List Way → List Way
clean_ways ways = filter (λ w. w.is_clean) ways

-- the numbers of the boots to which they lead
abbrev pub clean_numbers : List Way → List ℕ
clean_numbers ways = flat_map numbers (clean_ways ways)
