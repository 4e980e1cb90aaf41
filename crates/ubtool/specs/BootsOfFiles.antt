-- How the boots of a board follow one another, from files whose contents are known. The order of work is that of a rehearsal.
-- Ours.
use Rattle.std.specs.Prelude.{◌≡◌, ◌⊎◌, ℕ, ◌*◌, Bool, List, [], map, Option, Some, None, option_map, Result, Ok, Err, Vec, string_bytes}
use Rattle.std.specs.declared.alloc.Global.{Global}
use Rattle.output.specs.Sink.{Sink}
use Rattle.board_files.specs.BoardFiles.{IsNotRead}
use Rattle.envimage.specs.Data.{Pair}
use Rattle.envimage.specs.declared.image.ByteOrder.{ByteOrder}
use Rattle.rehearse_boots.specs.Boots.{Expected}
use Rattle.rehearse_rules.specs.declared.rehearse_error.RehearseError.TheVariants as rehearsal
use Rattle.rehearse_terms.specs.Asking.{Asking}
use Rattle.tool_files.specs.CallOrder.{OnlyReads}
use Rattle.tool_files.specs.Told.{Stored, Told, file_at}
use Rattle.tool_files.specs.declared.files.Action.TheVariants.{ReadAll}
use Rattle.tool_images.specs.FileFaults.{path_form}
use Rattle.tool_images.specs.declared.error.ToolError.TheVariants as tool
use Rattle.tool_images.specs.declared.fault.Fault.{Fault}
use Rattle.tool_images.specs.declared.fault.Fault.TheVariants.{Memory, Tool}
use Rattle.tool_steps.specs.ReadingFiles.{IsTextFault, Reads}
use Rattle.tool_words.specs.Asked.{InputsShown}
use Rattle.tool_words.specs.declared.ask.BootsAsk.{BootsAsk}
use Rattle.tool_words.specs.declared.ask.ExpectedAsk.{ExpectedAsk}
use Rattle.tool_words.specs.declared.ask.ValueAsk.{ValueAsk}
use Rattle.rehearse_terms.specs.State.{Text}
use Rattle.ubtool.specs.BootsOfImages.{BootLimits, RefusesBoots, TellsBoots}
use Rattle.ubtool.specs.Faults.{reported}
use Rattle.ubtool.specs.Given.{Given, all_runs}
use Rattle.ubtool.specs.GivenByFiles.{FromFiles}
use Rattle.ubtool.specs.Room.{room_if, room_of}
use Rattle.ubtool.specs.declared.fault.ProgramFault.{ProgramFault}
use Rattle.ubtool.specs.declared.fault.ProgramFault.TheVariants as program
use Rattle.ubtool.specs.declared.fault.ProgramFault.TheVariants.{NoSuchVariable, Shared}
use Rattle.ubtool.specs.declared.rehearsal_error.RehearsalError.{RehearsalError}
use Rattle.ubtool.specs.declared.rehearsal_error.RehearsalError.TheVariants as refused

-- what is asked for: all runs of the variable, within its bounds, and the values of variables
abbrev pub runs_asked : BootsAsk → Asking
runs_asked what = all_runs (string_bytes what.name) what.bounds (map string_bytes what.names.items)

-- the bytes that the states of a boot may count together, of which the words have the MiB
abbrev pub bytes_allowed : BootsAsk → ℕ
bytes_allowed what = what.memory * 1048576

-- ---- the ending that is expected

abbrev pub values_asked : List ValueAsk → List Pair
values_asked values = map (λ v. (string_bytes v.name, string_bytes v.value)) values

abbrev pub expected_values : Option ExpectedAsk → List Pair
expected_values None = []
expected_values (Some expected) = values_asked expected.values.items

abbrev pub expected_in : Option ExpectedAsk → Option Expected
expected_in None = None
expected_in (Some expected) =
    Some (record { ending = string_bytes expected.ending; values = values_asked expected.values.items; within = expected.within })

-- ---- how far boots may go

-- with this room in the image, and this script of changes
abbrev pub limits_with : BootsAsk → (room : Option ℕ) → (changes : Option Text) → BootLimits
limits_with what room changes = record {
  states = what.states;
  work = what.work;
  bytes = bytes_allowed what;
  boots = what.boots;
  failures = what.failures;
  room = room;
  changes = changes;
  expected = expected_in what.expected;
}

-- the same of copies, which are images or are made of a text or of nothing
abbrev pub limits_by : (images : Bool) → BootsAsk → (changes : Option Text) → Given → BootLimits
limits_by images what changes g = limits_with what (room_if images g.first g.second) changes

-- and of what is read, by what names it
abbrev pub limits_in : InputsShown → BootsAsk → (changes : Option Text) → Given → BootLimits
limits_in inputs what changes g = limits_with what (room_of inputs.origin g.first g.second) changes

-- how a refusal is reported: a variable that is not set, by its name
abbrev pub boots_refusal : BootsAsk → RehearsalError → ProgramFault
boots_refusal what (refused.Rehearsal rehearsal.NoSuchVariable) = NoSuchVariable (path_form what.name)
boots_refusal what error = reported error

-- each answer to the boots of copies
abbrev pub TellsBootsOfCopies : Given → BootLimits → (old new : Sink) → Result Bool RehearsalError → Type 0
TellsBootsOfCopies g limits old new (Ok holds) = TellsBoots g limits old new holds
TellsBootsOfCopies g limits old new (Err refused.Memory) = new ≡ old
TellsBootsOfCopies g limits old new (Err error) = RefusesBoots g limits old new error

-- ---- the script of changes

-- it was read, if one is named
abbrev pub HasReadChanges : (path : Option Text) → (old new : Told) → (changes : Option Text) → Type 0
HasReadChanges None old new None = new ≡ old
HasReadChanges (Some path) old new (Some changes) = Reads (path, ReadAll) (file_at path old.stored) old new changes
HasReadChanges path old new _ = ⊥

-- why it is refused
abbrev pub IsChangesFault : (path : Option Text) → Stored → Fault → Type 0
IsChangesFault None stored fault = ⊥
IsChangesFault (Some path) stored fault = IsTextFault path (file_at path stored) fault

abbrev pub ReadsChanges : (path : Option Text) → (old new : Told) → Result (Option (Vec ℕ Global)) Fault → Type 0
ReadsChanges path old new (Ok changes) = HasReadChanges path old new (option_map (λ v. v.items) changes)
ReadsChanges path old new (Err fault) = OnlyReads old new × IsChangesFault path old.stored fault

-- ---- all that is read

-- the path of the script of changes, if one is named
abbrev pub changes_path : BootsAsk → Option Text
changes_path what = option_map string_bytes what.changes

-- All was read, the script of changes last, and this holds of what it gives.
pub record FromAllFiles (order : ByteOrder) (inputs : InputsShown) (what : BootsAsk) (old new : Told) (IsSo : Given → (changes : Option Text) → Type 0) : Type 0 where
  pub middle : Told
  pub changes : Option Text
  pub board : FromFiles order inputs (runs_asked what) old middle (λ g. IsSo g changes)
  pub read : HasReadChanges (changes_path what) middle new changes

-- All but the script of changes was read, and this is refused for this.
pub record AreUnchanged (order : ByteOrder) (inputs : InputsShown) (what : BootsAsk) (old : Told) (fault : Fault) : Type 0 where
  pub middle : Told
  pub board : FromFiles order inputs (runs_asked what) old middle (λ g. Unit {0})
  pub refused : IsChangesFault (changes_path what) old.stored fault

-- why not all is read: files were only read
abbrev pub IsUnread : ByteOrder → InputsShown → BootsAsk → (old new : Told) → Fault → Type 0
IsUnread order inputs what old new fault =
    IsNotRead inputs old new fault ⊎ (OnlyReads old new × AreUnchanged order inputs what old fault)

-- all was read, and the boots are refused for this
abbrev pub RefusesFrom : ByteOrder → InputsShown → BootsAsk → (out out' : Sink) → (old new : Told) → RehearsalError → Type 0
RefusesFrom order inputs what out out' old new error = FromAllFiles order inputs what old new (λ g changes.
    RefusesBoots g (limits_in inputs what changes g) out out' error)

-- What is asked for was read, and the lines were written, with this answer; or the boots are refused; or a read is
-- refused, and files were only read. If memory runs out, nothing is written.
abbrev pub TellsBootsFrom : ByteOrder → InputsShown → BootsAsk → (out out' : Sink) → (old new : Told) →
    Result Bool ProgramFault → Type 0
TellsBootsFrom order inputs what out out' old new (Ok holds) = FromAllFiles order inputs what old new (λ g changes.
    TellsBoots g (limits_in inputs what changes g) out out' holds)
TellsBootsFrom order inputs what out out' old new (Err (Shared Memory)) = OnlyReads old new × (out' ≡ out)
TellsBootsFrom order inputs what out out' old new (Err (Shared (Tool (tool.Image error)))) =
    RefusesFrom order inputs what out out' old new (refused.Image error)
TellsBootsFrom order inputs what out out' old new (Err (Shared (Tool (tool.Script error)))) =
    RefusesFrom order inputs what out out' old new (refused.Changes error)
TellsBootsFrom order inputs what out out' old new (Err (Shared (Tool tool.Write))) =
    RefusesFrom order inputs what out out' old new refused.Write
TellsBootsFrom order inputs what out out' old new (Err (Shared (Tool error))) = ⊥
TellsBootsFrom order inputs what out out' old new (Err (Shared fault)) = IsUnread order inputs what old new fault
TellsBootsFrom order inputs what out out' old new (Err (NoSuchVariable name)) =
    (name ≡ path_form what.name)
    × RefusesFrom order inputs what out out' old new (refused.Rehearsal rehearsal.NoSuchVariable)
TellsBootsFrom order inputs what out out' old new (Err (program.NotARun word)) = ⊥
TellsBootsFrom order inputs what out out' old new (Err (program.Start error)) =
    RefusesFrom order inputs what out out' old new (refused.Start error)
TellsBootsFrom order inputs what out out' old new (Err (program.Rehearsal error)) =
    RefusesFrom order inputs what out out' old new (refused.Rehearsal error)
TellsBootsFrom order inputs what out out' old new (Err program.Boots) =
    RefusesFrom order inputs what out out' old new refused.Boots
TellsBootsFrom order inputs what out out' old new (Err program.Unnamed) =
    RefusesFrom order inputs what out out' old new refused.Unnamed
