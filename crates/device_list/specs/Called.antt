-- What a name calls (ours, as the device list is).
use Rattle.std.specs.Prelude.{◌-◌, cond, List, [], ◌∷◌, ◌++◌, length, Option, Some, None, option_map, slice_get}
use Rattle.builtins.specs.Builtins.{builtin_of}
use Rattle.commands.specs.BuiltInCommands.{Deed, ChangesVariables, carried, deed_of}
use Rattle.device_list.specs.Imports.{takes}
use Rattle.device_list.specs.DeviceList.{LeftSide, Variable, WordAt, LastWord, Imported, Saving, RightSide, Literal, ValueAt, LastValue, Deleted, CopyOf, Setting, Effect, Devices, effect_of, computed_by}
use Rattle.rehearse_terms.specs.State.{Text}
use Rattle.commands.specs.VariableNames.{is_bad_name}

-- what the fields of a command call
pub data Called : Type 0 where
  BuiltIn : Deed → Called
  Device : Effect → Called
  NoCommand : Called

-- the variable that a word of a call names, if the word is the name of one
abbrev pub named_by : Option Text → Option Text
named_by None = None
named_by (Some word) = cond (is_bad_name word) None (Some word)

-- the variable that the left side of a setting means in a call with these words
abbrev pub variable_of : LeftSide → List Text → Option Text
variable_of (Variable name) words = Some name
variable_of (WordAt place) words = named_by (slice_get words place)
variable_of LastWord words = named_by (slice_get words (length words - 1))
variable_of (Imported name reading first) words = cond (takes words name reading first) (Some name) None
variable_of Saving words = None

-- what a setting makes of its variable: this value, or a copy of another variable; or it is deleted
pub data NewValue : Type 0 where
  Value : Text → NewValue
  Copied : Text → NewValue
  Unset : NewValue

-- what the right side of a setting means in a call with these words
abbrev pub value_of : RightSide → List Text → Option NewValue
value_of (Literal text) words = Some (Value text)
value_of (ValueAt place) words = option_map Value (slice_get words place)
value_of LastValue words = option_map Value (slice_get words (length words - 1))
value_of Deleted words = Some Unset
value_of (CopyOf name) words = Some (Copied name)

-- what one setting sets or deletes
abbrev pub set_in : Option Text → Option NewValue → List (Text × NewValue)
set_in None value = []
set_in (Some name) None = []
set_in (Some name) (Some value) = (name, value) ∷ []

-- what a call with these words sets and deletes, in order; a word that names no variable sets nothing, nor does a word that is not
-- there
abbrev pub sets_in : List Text → List Setting → List (Text × NewValue)
sets_in words [] = []
sets_in words (set ∷ sets) = set_in (variable_of set.0 words) (value_of set.1 words) ++ sets_in words sets

abbrev pub listed_by : Devices → (name : Text) → (words : List Text) → Called
listed_by devices name words = elim (effect_of devices name words) [ Some effect ↦ Device effect | None ↦ NoCommand ]

-- a built-in command, or else a call of a command of the device list
abbrev pub called_by_name : Devices → (name : Text) → (words : List Text) → Called
called_by_name devices name words =
    elim (builtin_of name) [ Some builtin ↦ BuiltIn (deed_of builtin) | None ↦ listed_by devices name words ]

-- a call that is computed changes variables as a built-in command does
abbrev pub called_by : Devices → (name : Text) → (words : List Text) → Called
called_by devices name words =
    elim (computed_by devices name words) [
      | Some computed ↦ BuiltIn (ChangesVariables (λ ws. carried computed))
      | None ↦ called_by_name devices name words
    ]

-- what a call is that is not of a built-in command: it is computed, or it goes by the list
abbrev pub other_called : Devices → (name : Text) → (words : List Text) → Called
other_called devices name words =
    elim (computed_by devices name words) [
      | Some computed ↦ BuiltIn (ChangesVariables (λ ws. carried computed))
      | None ↦ listed_by devices name words
    ]
