-- The lines of boots. Ours.
use Rattle.std.specs.Prelude.{ℕ, ◌+◌, List, [], ◌∷◌, ◌++◌, length, Option, Some, None, option_map, codes, decimal, if◌then◌else◌}
use Rattle.std.specs.List.{enumerate_from, flat_map}
use Rattle.envtools.specs.Environment.{same}
use Rattle.rehearse_boots.specs.Boots.{Asked, Boot, Kept, Next, StartOf, boot_of, first_of, next_of, number_of, ways_of}
use Rattle.rehearse_rules.specs.Expected.{Answered}
use Rattle.rehearse_rules.specs.Listing.{line}
use Rattle.rehearse_states.specs.EndingLines.{failing, lines_below, row_text, value_text}
use Rattle.rehearse_states.specs.Endings.{Row}
use Rattle.rehearse_terms.specs.Outcomes.{OutcomeWord}
use Rattle.rehearse_terms.specs.State.{Text}

-- a variable whose value is empty is not set
abbrev pub value_if_set : Text → Option Text
value_if_set [] = None
value_if_set (b ∷ value) = Some (b ∷ value)

-- a variable that is not as in the first boot
abbrev pub changed_line : (name first kept : Text) → Text
changed_line name first kept = if same first kept then [] else line (value_text name (value_if_set kept))

abbrev pub changed_lines : (names : List Text) → (first kept : Kept) → Text
changed_lines [] first kept = []
changed_lines (name ∷ names) [] kept = []
changed_lines (name ∷ names) (value ∷ first) [] = []
changed_lines (name ∷ names) (value ∷ first) (other ∷ kept) =
    changed_line name value other ++ changed_lines names first kept

-- the line of an ending with the numbers of the boots that follow, and the lines below it
abbrev pub then_text : Option ℕ → Text
then_text None = []
then_text (Some number) = codes " then " ++ decimal number

abbrev pub way_text : Row → (next : ℕ) → (changed : Option ℕ) → Text
way_text r next changed = row_text r ++ codes " next " ++ decimal next ++ then_text changed

abbrev pub way_lines_to : Asked → List Kept → (fails : OutcomeWord → List Answered) → Row → Next → Text
way_lines_to asked boots fails r next =
    line (way_text r (number_of boots next.saved) (option_map (number_of boots) next.changed)) ++ lines_below asked.names fails r

abbrev pub way_lines : Asked → List Kept → (saved : Kept) → (fails : OutcomeWord → List Answered) → Row → Text
way_lines asked boots saved fails r = way_lines_to asked boots fails r (next_of asked saved r)

abbrev pub ways_text : Asked → List Kept → Option Boot → Text
ways_text asked boots None = []
ways_text asked boots (Some b) = flat_map (way_lines asked boots b.saved (failing b.task)) (ways_of asked b.task)

-- the line of a boot, and what it finds saved otherwise than the first one
abbrev pub head_text : Asked → (number : ℕ) → Kept → Text
head_text asked number kept = line (codes "boot " ++ decimal number) ++ changed_lines asked.kept (first_of asked) kept

-- and its endings
abbrev pub boot_text : StartOf → Asked → List Kept → (number : ℕ) → Kept → Text
boot_text start_of asked boots number kept =
    head_text asked number kept ++ ways_text asked boots (boot_of start_of asked kept)

-- the lines of each of these boots, which are some of all
abbrev pub boot_texts : StartOf → Asked → (all some : List Kept) → Text
boot_texts start_of asked all some = flat_map (λ b. boot_text start_of asked all (b.0 + 1) b.1) (enumerate_from 0 some)

-- how many there are
abbrev pub all_line : List Kept → Text
all_line boots = line (codes "all " ++ decimal (length boots))

-- the lines of all boots, and one of their number
abbrev pub boots_text : StartOf → Asked → List Kept → Text
boots_text start_of asked boots = boot_texts start_of asked boots boots ++ all_line boots
