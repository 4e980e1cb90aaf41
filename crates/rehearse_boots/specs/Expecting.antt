-- Whether each boot leads on to an ending that is expected. Ours.
use Rattle.std.specs.Prelude.{◌≡◌, ℕ, suc, ◌+◌, ◌&&◌, nat_eq, Bool, true, List, [], ◌∷◌, ◌++◌, length, take, drop, Option, Some, None, unwrap_or, Contains, codes, decimal, if◌then◌else◌}
use Rattle.std.specs.List.{AllByRecursion, list_all, slice_get}
use Rattle.std.specs.Str.{bytes_eq}
use Rattle.envimage.specs.Data.{Pair}
use Rattle.envtools.specs.Environment.{same}
use Rattle.rehearse_boots.specs.Boots.{Asked, Boot, Expected, Kept, StartOf, boot_of, first_of, next_after, ways_of}
use Rattle.rehearse_boots.specs.BootLines.{all_line, boot_text, head_text, way_lines}
use Rattle.rehearse_rules.specs.Listing.{last_line, line}
use Rattle.rehearse_states.specs.EndingLines.{failing}
use Rattle.rehearse_states.specs.Endings.{Row}
use Rattle.rehearse_terms.specs.State.{Text}
use Rattle.text.specs.Words.{is_space}

-- ---- the ending that is expected

abbrev pub ends_word : Text → Bool
ends_word [] = true
ends_word (b ∷ rest) = is_space b

-- a line starts with these words
abbrev pub starts_with : (words line : Text) → Bool
starts_with words line = bytes_eq (take (length words) line) words && ends_word (drop (length words) line)

-- the value that an ending leaves of a variable; an empty one if the variable is not set, or not asked for
abbrev pub value_left : (names : List Text) → List (Option Text) → (name : Text) → Text
value_left [] values name = []
value_left (other ∷ names) [] name = []
value_left (other ∷ names) (value ∷ values) name =
    if same other name then unwrap_or value [] else value_left names values name

abbrev pub is_left : (names : List Text) → List (Option Text) → Pair → Bool
is_left names values pair = bytes_eq (value_left names values pair.0) pair.1

abbrev pub is_expected : Asked → Expected → Row → Bool
is_expected asked expected r =
    starts_with expected.ending (last_line r.run_end.ending) && list_all (is_left asked.names r.run_end.values) expected.values

-- nothing fails in the first run of an ending with the fewest failures
abbrev pub is_clean : Row → Bool
is_clean r = nat_eq r.fewest.1 0

-- the line of the boot that does not lead on
abbrev pub lost_line : (number : ℕ) → Text
lost_line number = line (codes "lost " ++ decimal number)

module _ (start_of : StartOf) (asked : Asked) (expected : Expected) where
  -- from a boot, so many boots or fewer in which nothing fails lead to the ending
  pub data Leads : (count : ℕ) → Kept → Type 0 where
    ends : (count : ℕ) (kept : Kept) (b : Boot) (r : Row) → boot_of start_of asked kept ≡ Some b → Contains (ways_of asked b.task) r →
        is_clean r ≡ true → is_expected asked expected r ≡ true → Leads (suc count) kept
    goes_on : (count : ℕ) (kept next : Kept) (b : Boot) (r : Row) → boot_of start_of asked kept ≡ Some b → Contains (ways_of asked b.task) r →
        is_clean r ≡ true → Contains (next_after asked b.saved r) next → Leads count next → Leads (suc count) kept

  -- in as many as are allowed
  abbrev pub LeadsBy : (within : Option ℕ) → Kept → Type 0
  LeadsBy None kept = (count : ℕ) × Leads count kept
  LeadsBy (Some count) kept = Leads count kept

  abbrev pub LeadsOn : Kept → Type 0
  LeadsOn = LeadsBy expected.within

  -- ---- the answer, for all boots

  -- the lines of the boots on a way from the first one to this one, each with the ending that leads on
  pub data IsWayTo (boots : List Kept) : Kept → Text → Type 0 where
    begins : IsWayTo boots (first_of asked) []
    leads : (place : ℕ) (kept next : Kept) (lines : Text) (b : Boot) (r : Row) → IsWayTo boots kept lines →
        slice_get boots place ≡ Some kept → boot_of start_of asked kept ≡ Some b → Contains (ways_of asked b.task) r →
        Contains (next_after asked b.saved r) next →
        IsWayTo boots next (lines ++ (head_text asked (place + 1) kept ++ way_lines asked boots b.saved (failing b.task) r))

  -- each boot leads on, and only their number is written
  pub record AllLead (boots : List Kept) (text : Text) : Type 0 where
    pub lead : AllByRecursion LeadsOn boots
    pub lines : text ≡ all_line boots

  -- the first boot that does not lead on, with a way to it
  pub record OneIsLost (boots : List Kept) (text : Text) : Type 0 where
    pub front : List Kept
    pub kept : Kept
    pub behind : List Kept
    pub are : boots ≡ front ++ kept ∷ behind
    pub lead : AllByRecursion LeadsOn front
    pub lost : LeadsOn kept → ⊥
    pub way : Text
    pub is_way : IsWayTo boots kept way
    pub lines : text ≡ way ++ (boot_text start_of asked boots (length front + 1) kept ++ lost_line (length front + 1))
