-- Which variables are kept from one boot to the next: those that are asked for, those that the texts change that are
-- reached in the first boot, those that the system may change after a boot, and the counter of the list. Ours.
use Rattle.std.specs.Prelude.{◌≡◌, ◌||◌, Bool, true, false, not, List, [], ◌++◌, filter, map, Option, Some, None, option_map, Result, Ok, Err}
use Rattle.std.specs.Option.{option_to_list}
use Rattle.board_start.specs.Boards.{Board, Fault, ListRead, board_of}
use Rattle.device_list.specs.DeviceList.{Devices}
use Rattle.envimage.specs.Data.{Pair}
use Rattle.envtools.specs.Environment.{value_of}
use Rattle.envtools.specs.Scripting.{scripted}
use Rattle.hushcheck.specs.Changed.{Changed, ChangesFrom, nothing}
use Rattle.hushcheck.specs.Order.{once, with_names}
use Rattle.hushcheck.specs.Rules.{Rules}
use Rattle.rehearse_boots.specs.Boots.{Started}
use Rattle.rehearse_states.specs.Endings.{value_eq}
use Rattle.rehearse_terms.specs.State.{Text}
use Rattle.rehearse_terms.specs.declared.shell.Shell.{Shell}
use Rattle.ubtool.specs.BootStarts.{boot_start}
use Rattle.ubtool.specs.Given.{Given}

-- how the texts are looked through: with the device list of the first boot, and as its shell reads them
abbrev pub rules_of : Shell → Devices → Rules
rules_of shell devices = record { devices = Some devices; shell = Some shell; strict = false }

-- what the texts change that are reached in a boot that starts so
abbrev pub IsChanged : Shell → (variable : Text) → Started → Changed → Type 0
IsChanged shell variable s changed = ChangesFrom (rules_of shell s.devices) s.environment variable s.text changed

-- the variables whose values differ in two environments
abbrev pub differs : (before after : List Pair) → (name : Text) → Bool
differs before after name = not (value_eq (value_of before name) (value_of after name))

abbrev pub differing : (before after : List Pair) → List Text
differing before after = filter (differs before after) (map (λ p. p.0) (before ++ after))

-- what the system may change after a boot, by the script of changes
abbrev pub changed_by : List Pair → (changes : Option Text) → List Text
changed_by environment None = []
changed_by environment (Some changes) = differing environment (scripted environment changes).env

-- the counter of a list, which is raised before each run
abbrev pub counted_in : Result Board Fault → List Text
counted_in (Ok board) = map (λ c. c.counter) (option_to_list board.start.counter)
counted_in (Err fault) = []

-- ---- a board that counts its boots

-- the variable whose text is run beyond the limit, if the list has a counter
abbrev pub alternative_in : Result Board Fault → Option Text
alternative_in (Ok board) = option_map (λ c. c.alternative) board.start.counter
alternative_in (Err fault) = None

-- what is looked through: what is asked for, and the alternative
pub record Looked : Type 0 where
  pub variable : Text
  pub text : Option Text
  pub alternative : Option Text

-- Some boots run what is asked for, and others the alternative. So both are looked through, whatever the first boot runs.
pub record IsChangedByBoth (rules : Rules) (environment : List Pair) (variable : Text) (text : Option Text) (alternative : Text) (changed : Changed) : Type 0 where
  pub asked : Changed
  pub is_asked : ChangesFrom rules environment variable text asked
  pub beyond : Changed
  pub is_beyond : ChangesFrom rules environment alternative None beyond
  pub both : changed ≡ record { names = asked.names ++ beyond.names; more = asked.more || beyond.more }

abbrev pub IsChangedCounting : Rules → (environment : List Pair) → (variable : Text) → (text : Option Text) → (alternative : Option Text) → Changed → Type 0
IsChangedCounting rules environment variable text None changed = changed ≡ nothing
IsChangedCounting rules environment variable text (Some alternative) changed = IsChangedByBoth rules environment variable text alternative changed

-- ---- what is kept

-- the names that are asked for, those that are changed, and these further ones, each once; if none is asked for, no others
-- may be changed
pub record AreKept (shell : Shell) (l : Looked) (names further : List Text) (s : Started) (kept : List Text) : Type 0 where
  pub changed : Changed
  pub is : IsChanged shell l.variable s changed
  pub counting : Changed
  pub is_counting : IsChangedCounting (rules_of shell s.devices) s.environment l.variable l.text l.alternative counting
  pub kept_are : kept ≡ with_names (once names) (changed.names ++ (counting.names ++ further))
  pub known : names ≡ [] → (changed.more || counting.more) ≡ false

-- by how the first boot starts: if it does not, those that are asked for
abbrev pub AreKeptBy : Shell → Looked → (names further : List Text) → Result Started Fault → (kept : List Text) → Type 0
AreKeptBy shell l names further (Ok s) kept = AreKept shell l names further s kept
AreKeptBy shell l names further (Err fault) kept = kept ≡ once names

-- how the first boot starts, in which nothing is kept
abbrev pub first_start : Given → (environment : List Pair) → Result Started Fault
first_start g environment = boot_start g.device_list g.taking g.asking.variable g.text [] environment

-- those that are kept whatever the texts change
abbrev pub further_names : ListRead → List Pair → (changes : Option Text) → List Text
further_names list environment changes = changed_by environment changes ++ counted_in (board_of list)

abbrev pub looked : ListRead → (variable : Text) → (text : Option Text) → Looked
looked list variable text = record { variable = variable; text = text; alternative = alternative_in (board_of list) }

abbrev pub IsKept : Given → (changes : Option Text) → (environment : List Pair) → (kept : List Text) → Type 0
IsKept g changes environment kept =
    AreKeptBy g.asking.bounds.shell (looked g.device_list g.asking.variable g.text) g.asking.names (further_names g.device_list environment changes)
    (first_start g environment) kept

-- no name is asked for, and the texts may change others than those that are known
pub record AreUnnamed (shell : Shell) (l : Looked) (names : List Text) (start : Result Started Fault) : Type 0 where
  pub started : Started
  pub starts : start ≡ Ok started
  pub changed : Changed
  pub is : IsChanged shell l.variable started changed
  pub counting : Changed
  pub is_counting : IsChangedCounting (rules_of shell started.devices) started.environment l.variable l.text l.alternative counting
  pub more : (changed.more || counting.more) ≡ true
  pub none : names ≡ []

abbrev pub IsUnnamed : Given → (environment : List Pair) → Type 0
IsUnnamed g environment =
    AreUnnamed g.asking.bounds.shell (looked g.device_list g.asking.variable g.text) g.asking.names (first_start g environment)
