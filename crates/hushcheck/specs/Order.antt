-- Which texts are checked, and in which order. Ours.
use Rattle.std.specs.Prelude.{◌≡◌, ◌<◌, ◌++◌, ◌∷◌, ℕ, Bool, true, false, List, [], length, take, slice_index_or, Option, Some, None, Contains, if◌then◌else◌}
use Rattle.std.specs.List.{flat_map, list_any}
use Rattle.envimage.specs.Data.{Pair}
use Rattle.envtools.specs.Environment.{same, value_of}
use Rattle.device_list.specs.DeviceList.{Devices, file_in}
use Rattle.hushcheck.specs.Calls.{files_by_value}
use Rattle.hushcheck.specs.Names.{Text, run_by_value}
use Rattle.hushcheck.specs.Rules.{Rules}

-- a name goes last if it is new
abbrev pub with_name : List Text → Text → List Text
with_name names name = if list_any (same name) names then names else names ++ name ∷ []

-- names are added after others, each once
abbrev pub with_names : List Text → List Text → List Text
with_names names [] = names
with_names names (name ∷ more) = with_names (with_name names name) more

-- each name once, at its first place
abbrev pub once : List Text → List Text
once names = with_names [] names

-- ---- a turn

-- what has its turn: a variable, or a file that the device list names
pub data Turn : Type 0 where
  Variable : (name : Text) → Turn
  File : (name : Text) → Turn

abbrev pub name_of : Turn → Text
name_of (Variable name) = name
name_of (File name) = name

abbrev pub is_file : Turn → Bool
is_file (Variable name) = false
is_file (File name) = true

abbrev pub file_text : Option Devices → (name : Text) → Option Text
file_text None name = None
file_text (Some devices) name = file_in devices name

-- its text: a variable may be not set
abbrev pub text_of : Rules → List Pair → Turn → Option Text
text_of rules env (Variable name) = value_of env name
text_of rules env (File name) = file_text rules.devices name

-- the variables that its text runs, and the files whose texts run after its calls
abbrev pub run_by : Rules → List Pair → Turn → List Text
run_by rules env turn = run_by_value rules.shell (text_of rules env turn)

abbrev pub called_by : Rules → List Pair → Turn → List Text
called_by rules env turn = files_by_value rules (text_of rules env turn)

-- ---- turns one after another

-- the variables among turns, and the files
abbrev pub variable_in : Turn → List Text
variable_in (Variable name) = name ∷ []
variable_in (File name) = []

abbrev pub file_in_turn : Turn → List Text
file_in_turn (Variable name) = []
file_in_turn (File name) = name ∷ []

abbrev pub variables_in : List Turn → List Text
variables_in turns = flat_map variable_in turns

abbrev pub files_in : List Turn → List Text
files_in turns = flat_map file_in_turn turns

-- The variables that are reached by these turns: those that are asked for, and then what the text of each turn runs. And the
-- files: those that a script leads to, and then those that each text leads to.
abbrev pub variables_after : Rules → List Pair → (asked : List Text) → List Turn → List Text
variables_after rules env asked turns = once (asked ++ flat_map (run_by rules env) turns)

abbrev pub files_after : Rules → List Pair → (called : List Text) → List Turn → List Text
files_after rules env called turns = once (called ++ flat_map (called_by rules env) turns)

-- it is asked for, or a text that is reached runs it
pub data IsReached (rules : Rules) (env : List Pair) (asked called : List Text) : Turn → Type 0 where
  is_asked : (name : Text) → Contains asked name → IsReached rules env asked called (Variable name)
  is_run : (by : Turn) (name : Text) → IsReached rules env asked called by → Contains (run_by rules env by) name →
      IsReached rules env asked called (Variable name)
  is_called : (name : Text) → Contains called name → IsReached rules env asked called (File name)
  is_called_by : (by : Turn) (name : Text) → IsReached rules env asked called by → Contains (called_by rules env by) name →
      IsReached rules env asked called (File name)

-- the first of these names
abbrev pub AreFirst : (names all : List Text) → Type 0
AreFirst names all = (behind : List Text) × (all ≡ names ++ behind)

-- Turns of what is reached, each once: the variables in the order in which they are reached, and the files in theirs. A file
-- has its turn when each variable that was reached before had its own.
pub record AreTurns (rules : Rules) (env : List Pair) (asked called : List Text) (turns : List Turn) : Type 0 where
  pub variables : AreFirst (variables_in turns) (variables_after rules env asked turns)
  pub files : AreFirst (files_in turns) (files_after rules env called turns)
  pub files_wait : (k : ℕ) → k < length turns → is_file (slice_index_or turns k (Variable [])) ≡ true →
      variables_in (take k turns) ≡ variables_after rules env asked (take k turns)
  pub reached : (turn : Turn) → Contains turns turn → IsReached rules env asked called turn

-- These are all turns: nothing that is reached is left.
pub record IsOrder (rules : Rules) (env : List Pair) (asked called : List Text) (turns : List Turn) : Type 0 where
  pub are_turns : AreTurns rules env asked called turns
  pub all_variables : variables_in turns ≡ variables_after rules env asked turns
  pub all_files : files_in turns ≡ files_after rules env called turns
