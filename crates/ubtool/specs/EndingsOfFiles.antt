-- How all runs of images end, from files whose contents are known. The order of work is that of
-- a rehearsal. Ours.
use Rattle.std.specs.Prelude.{◌≡◌, ℕ, ◌*◌, Bool, true, map, Result, Ok, Err, string_bytes}
use Rattle.output.specs.Sink.{Sink}
use Rattle.envimage.specs.declared.image.ByteOrder.{ByteOrder}
use Rattle.rehearse_terms.specs.Asking.{Asking}
use Rattle.tool_words.specs.Asked.{InputsShown}
use Rattle.tool_words.specs.declared.ask.EndingsAsk.{EndingsAsk}
use Rattle.ubtool.specs.EndingsOfImages.{RefusesEndings, TellsEndings}
use Rattle.tool_images.specs.FileFaults.{path_form}
use Rattle.board_files.specs.BoardFiles.{IsNotRead}
use Rattle.ubtool.specs.Given.{Given, all_runs}
use Rattle.ubtool.specs.GivenByFiles.{FromFiles}
use Rattle.rehearse_rules.specs.declared.rehearse_error.RehearseError.TheVariants as rehearsal
use Rattle.tool_images.specs.declared.error.ToolError.TheVariants as tool
use Rattle.ubtool.specs.Faults.{reported}
use Rattle.ubtool.specs.declared.fault.ProgramFault.{ProgramFault}
use Rattle.ubtool.specs.declared.fault.ProgramFault.TheVariants as program
use Rattle.ubtool.specs.declared.fault.ProgramFault.TheVariants.{NoSuchVariable, Shared}
use Rattle.ubtool.specs.declared.rehearsal_error.RehearsalError.{RehearsalError}
use Rattle.ubtool.specs.declared.rehearsal_error.RehearsalError.TheVariants as refused
use Rattle.tool_images.specs.declared.fault.Fault.TheVariants.{Memory, Tool}
use Rattle.tool_files.specs.CallOrder.{OnlyReads}
use Rattle.tool_files.specs.Told.{Told}

-- what is asked for: all runs of the variable, within its bounds, and the values of variables
abbrev pub all_asked : EndingsAsk → Asking
all_asked what = all_runs (string_bytes what.name) what.bounds (map string_bytes what.names.items)

-- the bytes that its states may count together, of which the words have the MiB
abbrev pub bytes_allowed : EndingsAsk → ℕ
bytes_allowed what = what.memory * 1048576

-- how a refusal is reported: a variable that is not set, by its name
abbrev pub endings_refusal : EndingsAsk → RehearsalError → ProgramFault
endings_refusal what (refused.Rehearsal rehearsal.NoSuchVariable) = NoSuchVariable (path_form what.name)
endings_refusal what error = reported error

-- each answer to the endings of copies
abbrev pub TellsCopies : Given → (flow : Bool) → (states work bytes : ℕ) → (old new : Sink) → Result (Unit {0}) RehearsalError → Type 0
TellsCopies g flow states work bytes old new (Ok done) = TellsEndings g flow states bytes old new
TellsCopies g flow states work bytes old new (Err refused.Memory) = new ≡ old
TellsCopies g flow states work bytes old new (Err error) = RefusesEndings g flow states work bytes old new error

-- What is asked for was read, and the lines were written; or the endings are refused; or a read is
-- refused, and files were only read. If memory runs out, nothing is written.
abbrev pub TellsFrom : ByteOrder → InputsShown → EndingsAsk → (out out' : Sink) → (old new : Told) →
    Result Bool ProgramFault → Type 0
TellsFrom order inputs what out out' old new (Ok all) =
    (all ≡ true) × FromFiles order inputs (all_asked what) old new (λ g.
    TellsEndings g what.flow what.states (bytes_allowed what) out out')
TellsFrom order inputs what out out' old new (Err (Shared Memory)) = OnlyReads old new × (out' ≡ out)
TellsFrom order inputs what out out' old new (Err (Shared (Tool (tool.Image error)))) =
    FromFiles order inputs (all_asked what) old new (λ g.
    RefusesEndings g what.flow what.states what.work (bytes_allowed what) out out' (refused.Image error))
TellsFrom order inputs what out out' old new (Err (Shared (Tool tool.Write))) =
    FromFiles order inputs (all_asked what) old new (λ g.
    RefusesEndings g what.flow what.states what.work (bytes_allowed what) out out' refused.Write)
TellsFrom order inputs what out out' old new (Err (Shared (Tool error))) = ⊥
TellsFrom order inputs what out out' old new (Err (Shared fault)) = IsNotRead inputs old new fault
TellsFrom order inputs what out out' old new (Err (NoSuchVariable name)) =
    (name ≡ path_form what.name) × FromFiles order inputs (all_asked what) old new (λ g.
    RefusesEndings g what.flow what.states what.work (bytes_allowed what) out out' (refused.Rehearsal rehearsal.NoSuchVariable))
TellsFrom order inputs what out out' old new (Err (program.NotARun word)) = ⊥
TellsFrom order inputs what out out' old new (Err program.Boots) = ⊥
TellsFrom order inputs what out out' old new (Err program.Unnamed) = ⊥
TellsFrom order inputs what out out' old new (Err (program.Start error)) =
    FromFiles order inputs (all_asked what) old new (λ g. RefusesEndings g what.flow what.states what.work (bytes_allowed what) out out' (refused.Start error))
TellsFrom order inputs what out out' old new (Err (program.Rehearsal error)) =
    FromFiles order inputs (all_asked what) old new (λ g.
    RefusesEndings g what.flow what.states what.work (bytes_allowed what) out out' (refused.Rehearsal error))
