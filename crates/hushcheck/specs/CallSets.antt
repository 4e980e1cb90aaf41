-- What a call sets and deletes, and of which files the text may run after it, as far as its words say it. That `setenv`,
-- `setexpr` and `env` set and delete variables, and how their words name these, is U-Boot's (doc/usage/cmd/env,
-- doc/usage/cmd/setexpr). What other commands set and delete, and what runs after them, is what the device list says. That a
-- word with a variable names nothing that is known, and that `-a` means all names, is ours.
use Rattle.std.specs.Prelude.{◌-◌, ◌||◌, ◌++◌, ◌∷◌, Bool, true, false, List, [], length, map, slice_get, Option, Some, None, codes, if◌then◌else◌}
use Rattle.std.specs.List.{fold}
use Rattle.text.specs.Bytes as ascii
use Rattle.envtools.specs.Environment.{same}
use Rattle.hushlang.specs.Tree.{Word, Bytes, Mark, Var, Status}
use Rattle.device_list.specs.DeviceList.{Devices, Effect, LeftSide, Variable, WordAt, LastWord, Imported, Saving, RightSide, Literal, ValueAt, LastValue, Deleted, CopyOf, Setting, effect_of}
use Rattle.hushcheck.specs.Names.{Text, written_out}
use Rattle.hushcheck.specs.Seats.{starts_with}

-- the names of variables that are known, and whether there are others
pub record Named : Type 0 where
  pub names : List Text
  pub more : Bool

abbrev pub no_names : Named
no_names = record { names = []; more = false }

abbrev pub with_more : Named → Named
with_more n = record n { more = true }

-- a name, if it is written out
abbrev pub with_name : Named → Option Text → Named
with_name n None = with_more n
with_name n (Some name) = record n { names = n.names ++ name ∷ [] }

-- what is set, and what is deleted; and the files of which the text of one runs
pub record Sets : Type 0 where
  pub sets : Named
  pub deletes : Named
  pub runs : List Text

abbrev pub none : Sets
none = record { sets = no_names; deletes = no_names; runs = [] }

-- others are set
abbrev pub sets_more : Sets → Sets
sets_more s = record s { sets = with_more s.sets }

-- ---- `setenv`, `setexpr` and `env`, by their words, as far as these are written out

abbrev pub is_option : Option Text → Bool
is_option None = false
is_option (Some word) = starts_with ascii.minus word

abbrev pub behind_options : List (Option Text) → List (Option Text)
behind_options [] = []
behind_options (word ∷ words) = if is_option word then behind_options words else word ∷ words

-- a name and its value; a name alone is deleted (`setexpr` refuses it, and counts as the others here)
abbrev pub set_to_value : Sets → List (Option Text) → Sets
set_to_value s [] = s
set_to_value s (name ∷ []) = record s { deletes = with_name s.deletes name }
set_to_value s (name ∷ value ∷ words) = record s { sets = with_name s.sets name }

abbrev pub set_by_words : Sets → List (Option Text) → Sets
set_by_words s words = set_to_value s (behind_options words)

-- the subcommands of `env` that take the names from memory, from storage or from U-Boot itself
abbrev pub takes_names : Text → Bool
takes_names word = same word (codes "import") || (same word (codes "default") || same word (codes "load"))

-- an option `-a` means all names
abbrev pub stands_for_all : Option Text → Bool
stands_for_all None = false
stands_for_all (Some word) = same word (codes "-a")

-- a word of `env delete`
abbrev pub with_deleted : Named → Option Text → Named
with_deleted n word = if is_option word then (if stands_for_all word then with_more n else n) else with_name n word

abbrev pub deleted_by_words : Sets → List (Option Text) → Sets
deleted_by_words s words = record s { deletes = fold with_deleted s.deletes words }

abbrev pub set_by_subcommand : Sets → Text → List (Option Text) → Sets
set_by_subcommand s word words =
    if same word (codes "set") then set_by_words s words
    else (if same word (codes "delete") then deleted_by_words s words
    else (if takes_names word then sets_more s else s))

abbrev pub set_by_env : Sets → List (Option Text) → Sets
set_by_env s [] = s
set_by_env s (None ∷ words) = sets_more s
set_by_env s (Some word ∷ words) = set_by_subcommand s word words

abbrev pub set_by_name : Sets → (command : Text) → List (Option Text) → Sets
set_by_name s command words =
    if same command (codes "setenv") || same command (codes "setexpr") then set_by_words s words
    else (if same command (codes "env") then set_by_env s words else s)

-- ---- the settings of a device list

-- a variable as it is in a pattern: a list may write a pattern word so
abbrev pub variable_part : (name : Text) → Text
variable_part name = codes "${" ++ (name ++ codes "}")

-- the bytes of a word that are written out, with each variable in it so
abbrev pub part_of : Word → Text
part_of [] = []
part_of (Bytes bytes ∷ more) = bytes ++ part_of more
part_of (Mark ∷ more) = part_of more
part_of (Var name split ∷ more) = variable_part name ++ part_of more
part_of (Status ∷ more) = part_of more

-- a word of the call, if it is there
abbrev pub with_word : Named → Option (Option Text) → Named
with_word n None = n
with_word n (Some word) = with_name n word

-- what the left side of a setting names in a call with these words; a variable of a text that is imported counts in
-- each reading of the text; what is saved is none
abbrev pub with_side : List (Option Text) → Named → LeftSide → Named
with_side words n (Variable name) = with_name n (Some name)
with_side words n (WordAt place) = with_word n (slice_get words place)
with_side words n LastWord = with_word n (slice_get words (length words - 1))
with_side words n (Imported name reading first) = with_name n (Some name)
with_side words n Saving = n

abbrev pub is_deletion : RightSide → Bool
is_deletion (Literal text) = false
is_deletion (ValueAt place) = false
is_deletion LastValue = false
is_deletion Deleted = true
is_deletion (CopyOf name) = false

-- a deletion sets nothing
abbrev pub set_by_setting : List (Option Text) → Sets → Setting → Sets
set_by_setting words s setting =
    if is_deletion setting.1 then record s { deletes = with_side words s.deletes setting.0 }
    else record s { sets = with_side words s.sets setting.0 }

abbrev pub set_by_effect : Sets → List (Option Text) → Option Effect → Sets
set_by_effect s words None = s
set_by_effect s words (Some effect) =
    record (fold (set_by_setting words) s effect.sets) { runs = effect.runs }

-- The list is asked for the call with what is written out of its words, and with the variables in them as `${NAME}`.
abbrev pub set_by_list : Sets → Option Devices → (command : Text) → List Word → Sets
set_by_list s None command words = s
set_by_list s (Some devices) command words =
    set_by_effect s (map written_out words) (effect_of devices command (map part_of words))

-- ---- a call: a command that is not written out may set anything

abbrev pub set_by_call : Option Devices → Option Text → List Word → Sets
set_by_call devices None words = sets_more none
set_by_call devices (Some command) words =
    set_by_list (set_by_name none command (map written_out words)) devices command words
