-- Boots of a board, one after another: each starts with what was saved last. It follows a boot whatever became of this one, since
-- after any ending the power may go, or a watchdog bite. Ours; that a boot starts with the environment that was saved is
-- U-Boot's (doc/usage/environment).
use Rattle.std.specs.Prelude.{◌≡◌, ℕ, ◌+◌, ◌-◌, ◌<◌, nat_lt, Bool, true, false, List, [], ◌∷◌, ◌++◌, length, map, filter, drop, fold, Option, Some, None, option_map, unwrap_or, Contains, Result, Ok, Err, if◌then◌else◌}
use Rattle.std.specs.List.{AllByRecursion, flat_map, list_any, position_or_len, zip}
use Rattle.std.specs.Option.{option_to_list}
use Rattle.std.specs.Cmp.Lexicographic.{pointwise}
use Rattle.board_start.specs.Boards.{Fault}
use Rattle.device_list.specs.DeviceList.{Devices}
use Rattle.device_list.specs.Saving.{saved_name}
use Rattle.device_list.specs.declared.finish.BoardEnd.{BoardEnd}
use Rattle.device_list.specs.declared.finish.BoardEnd.TheVariants.{Boots, Restarts, Halts}
use Rattle.envimage.specs.Data.{Pair, entry}
use Rattle.envtools.specs.Changes.{with_changes}
use Rattle.envtools.specs.Environment.{same, value_of}
use Rattle.envtools.specs.Scripting.{scripted}
use Rattle.rehearse_machine.specs.Tasks.{task_found}
use Rattle.rehearse_rules.specs.Execution.{Ending, Finished}
use Rattle.rehearse_rules.specs.Runs.{Task, is_at_most}
use Rattle.rehearse_states.specs.Endings.{Row, endings}
use Rattle.rehearse_terms.specs.Bounds.{BoundsShown, with_room}
use Rattle.rehearse_terms.specs.State.{Text}

-- ---- what is kept from one boot to the next

-- the values of the variables that are kept, in their order; an empty one of a variable that is not set
abbrev pub Kept : Type 0
Kept = List Text

abbrev pub same_kept : Kept → Kept → Bool
same_kept = pointwise same

-- the values that these variables have
abbrev pub values_kept : (names : List Text) → List Pair → Kept
values_kept names environment = map (λ name. unwrap_or (value_of environment name) []) names

-- an environment in which these variables have these values
abbrev pub with_kept : List Pair → (names : List Text) → Kept → List Pair
with_kept environment names kept = with_changes environment (zip names kept)

-- ---- what a run saves

-- the value that is saved when a run is over, by the one that was saved before it, and by the copy that the run leaves of the
-- variable (`copy_of` of Saving.antt)
abbrev pub kept_by : (before : Text) → (copy : Option Text) → Text
kept_by before None = before
kept_by before (Some []) = []
kept_by before (Some (mark ∷ value)) = value

abbrev pub kept_after : Kept → (copies : List (Option Text)) → Kept
kept_after [] copies = []
kept_after (before ∷ kept) [] = before ∷ kept_after kept []
kept_after (before ∷ kept) (copy ∷ copies) = kept_by before copy ∷ kept_after kept copies

-- whether an image has room for the entries of an environment, and for the byte that ends them
abbrev pub has_room : (room : Option ℕ) → List Pair → Bool
has_room None environment = true
has_room (Some room) environment = nat_lt (length (flat_map entry environment)) room

-- ---- what is asked

-- what a boot starts with
pub record Started : Type 0 where
  pub environment : List Pair
  pub devices : Devices
  -- a text that is rehearsed in place of the variable's
  pub text : Option Text
  -- whether this environment is saved before the run, as U-Boot saves its boot counter
  pub saves : Bool

-- the same, by the environment that a boot finds saved, or why it does not start
abbrev pub StartOf : Type 0
StartOf = List Pair → Result Started Fault

-- which ending is expected: how its line starts, the values that it leaves of variables, and how many boots may lead to it; none for
-- any number
pub record Expected : Type 0 where
  pub ending : Text
  pub values : List Pair
  pub within : Option ℕ

pub record Asked : Type 0 where
  -- the environment that the first boot finds saved
  pub environment : List Pair
  -- the variable whose text each boot runs, and the bounds of its runs
  pub name : Text
  pub bounds : BoundsShown
  -- how many failures an ending may take that is followed; none for any number
  pub failures : Option ℕ
  -- the variables whose values distinguish runs, and those that are kept from one boot to the next
  pub names : List Text
  pub kept : List Text
  -- how many bytes an image has for what is saved
  pub room : Option ℕ
  -- a script of the changes that the system may make after an ending that boots
  pub changes : Option Text
  -- an ending to which each boot is expected to lead
  pub expected : Option Expected

-- the values that the first boot finds saved
abbrev pub first_of : Asked → Kept
first_of asked = values_kept asked.kept asked.environment

-- the environment that a boot finds saved
abbrev pub found_by : Asked → Kept → List Pair
found_by asked kept = with_kept asked.environment asked.kept kept

-- ---- a boot

-- an environment without these variables
abbrev pub without_kept : List Pair → (names : List Text) → List Pair
without_kept environment names = with_changes environment (map (λ name. (name, [])) names)

-- how many bytes an image has for the variables that are kept: those that the others leave, and the byte that ends all
abbrev pub room_kept : Asked → Option ℕ
room_kept asked =
    option_map (λ room. room - (length (flat_map entry (without_kept asked.environment asked.kept)) + 1)) asked.room

-- the bounds of its run, in which a call that saves more fails
abbrev pub bounds_in : Asked → BoundsShown
bounds_in asked = with_room (room_kept asked) asked.bounds

-- what is saved, if the image has room for it; else what was saved before
abbrev pub saved_if : (asked : Asked) → (before after : Kept) → Kept
saved_if asked before after = if has_room asked.room (found_by asked after) then after else before

-- what a boot rehearses, and what is saved when its run begins
pub record Boot : Type 0 where
  pub task : Task
  pub saved : Kept

-- what is saved when the run of a boot begins that finds this saved
abbrev pub saved_at : Asked → Kept → Started → Kept
saved_at asked kept s = if s.saves then saved_if asked kept (values_kept asked.kept s.environment) else kept

abbrev pub boot_with : Asked → Kept → Started → Task → Boot
boot_with asked kept s task = record { task = task; saved = saved_at asked kept s }

-- if its text is set
abbrev pub rehearsed : Asked → Kept → Started → Option Boot
rehearsed asked kept s =
    option_map (boot_with asked kept s)
    (task_found s.environment s.devices (record { name = asked.name; given = s.text }) (bounds_in asked))

abbrev pub rehearsed_by : Asked → Kept → Result Started Fault → Option Boot
rehearsed_by asked kept (Ok s) = rehearsed asked kept s
rehearsed_by asked kept (Err fault) = None

abbrev pub boot_of : StartOf → Asked → Kept → Option Boot
boot_of start_of asked kept = rehearsed_by asked kept (start_of (found_by asked kept))

-- what distinguishes its runs, beside their endings: the values of the variables that are asked for, and what was saved of
-- those that are kept
abbrev pub told_apart : Asked → List Text
told_apart asked = asked.names ++ map saved_name asked.kept

-- whether few enough failures lead to an ending
abbrev pub is_followed : Asked → Row → Bool
is_followed asked r = is_at_most asked.failures r.fewest.1

-- its endings that are followed
abbrev pub ways_of : Asked → Task → List Row
ways_of asked task = filter (is_followed asked) (endings (told_apart asked) task)

-- ---- what the next boot finds saved

-- after an ending of a boot whose run began with this saved
abbrev pub saved_after : Asked → (saved : Kept) → Row → Kept
saved_after asked saved r = saved_if asked saved (kept_after saved (drop (length asked.names) r.run_end.values))

-- after the changes of a script, as `setenv -s` makes them
abbrev pub changed_by : Asked → (saved : Kept) → (script : Text) → Kept
changed_by asked saved script = saved_if asked saved (values_kept asked.kept (scripted (found_by asked saved) script).env)

abbrev pub ends_in_boot : BoardEnd → Bool
ends_in_boot Boots = true
ends_in_boot Restarts = false
ends_in_boot Halts = false

abbrev pub has_booted : Ending → Bool
has_booted (Finished finish name) = ends_in_boot finish
has_booted _ = false

-- what is saved after an ending, and, if the board has booted and a script is given, after its changes
pub record Next : Type 0 where
  pub saved : Kept
  pub changed : Option Kept

abbrev pub changed_if : Asked → (saved : Kept) → (is_booted : Bool) → (script : Option Text) → Option Kept
changed_if asked saved true (Some script) = Some (changed_by asked saved script)
changed_if asked saved true None = None
changed_if asked saved false script = None

abbrev pub next_with : Asked → (saved : Kept) → Row → Next
next_with asked saved r = record { saved = saved; changed = changed_if asked saved (has_booted r.run_end.ending) asked.changes }

abbrev pub next_of : Asked → (saved : Kept) → Row → Next
next_of asked saved r = next_with asked (saved_after asked saved r) r

abbrev pub both : Next → List Kept
both next = next.saved ∷ option_to_list next.changed

-- the boots after one of its endings
abbrev pub next_after : Asked → (saved : Kept) → Row → List Kept
next_after asked saved r = both (next_of asked saved r)

abbrev pub next_by : Asked → Option Boot → List Kept
next_by asked None = []
next_by asked (Some b) = flat_map (next_after asked b.saved) (ways_of asked b.task)

-- the boots that follow it, in the order of its endings
abbrev pub next_boots : StartOf → Asked → Kept → List Kept
next_boots start_of asked kept = next_by asked (boot_of start_of asked kept)

-- ---- all boots

-- it is the first, or follows one that is reached
pub data IsReached (start_of : StartOf) (asked : Asked) : Kept → Type 0 where
  is_first : IsReached start_of asked (first_of asked)
  is_next : (before kept : Kept) → IsReached start_of asked before → Contains (next_boots start_of asked before) kept →
      IsReached start_of asked kept

-- boots that find the same saved are one
abbrev pub with_boot : List Kept → Kept → List Kept
with_boot boots kept = if list_any (same_kept kept) boots then boots else boots ++ kept ∷ []

abbrev pub each_once : List Kept → List Kept
each_once boots = fold with_boot [] boots

-- the first one and those that follow these, each once, in the order in which they are found
abbrev pub found_from : StartOf → Asked → List Kept → List Kept
found_from start_of asked boots = each_once (first_of asked ∷ flat_map (next_boots start_of asked) boots)

-- These are all boots: the first one, and those that follow one of them, in this order. Each of them starts.
pub record AreBoots (start_of : StartOf) (asked : Asked) (boots : List Kept) : Type 0 where
  pub all : boots ≡ found_from start_of asked boots
  pub reached : AllByRecursion (IsReached start_of asked) boots
  pub starts : AllByRecursion (λ kept. (b : Boot) × (boot_of start_of asked kept ≡ Some b)) boots

-- more boots than that are reached, each of which finds something else saved
pub record HasMoreBoots (start_of : StartOf) (asked : Asked) (most : ℕ) : Type 0 where
  pub boots : List Kept
  pub reached : AllByRecursion (IsReached start_of asked) boots
  pub apart : each_once boots ≡ boots
  pub many : most < length boots

-- the number of a boot among them
abbrev pub number_of : List Kept → Kept → ℕ
number_of boots kept = position_or_len (same_kept kept) boots + 1
