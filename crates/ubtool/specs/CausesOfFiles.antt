-- What has to fail for each ending of images, from files whose contents are known. The order of work is that of
-- a rehearsal. Ours.
use Rattle.std.specs.Prelude.{◌≡◌, Bool, [], Result, Ok, Err, string_bytes}
use Rattle.output.specs.Sink.{Sink}
use Rattle.envimage.specs.declared.image.ByteOrder.{ByteOrder}
use Rattle.rehearse_terms.specs.Asking.{Asking}
use Rattle.tool_words.specs.Asked.{InputsShown}
use Rattle.tool_words.specs.declared.ask.CausesAsk.{CausesAsk}
use Rattle.ubtool.specs.CausesOfImages.{RefusesCauses, TellsCauses}
use Rattle.tool_images.specs.FileFaults.{path_form}
use Rattle.board_files.specs.BoardFiles.{IsNotRead}
use Rattle.ubtool.specs.Given.{Given, all_runs}
use Rattle.ubtool.specs.GivenByFiles.{FromFiles}
use Rattle.rehearse_rules.specs.declared.rehearse_error.RehearseError.TheVariants as rehearsal
use Rattle.tool_images.specs.declared.error.ToolError.TheVariants as tool
use Rattle.ubtool.specs.Faults.{reported}
use Rattle.ubtool.specs.declared.fault.ProgramFault.{ProgramFault}
use Rattle.ubtool.specs.declared.fault.ProgramFault.TheVariants as program
use Rattle.ubtool.specs.declared.fault.ProgramFault.TheVariants.{NoSuchVariable, Shared}
use Rattle.ubtool.specs.declared.rehearsal_error.RehearsalError.{RehearsalError}
use Rattle.ubtool.specs.declared.rehearsal_error.RehearsalError.TheVariants as refused
use Rattle.tool_images.specs.declared.fault.Fault.TheVariants.{Memory, Tool}
use Rattle.tool_files.specs.CallOrder.{OnlyReads}
use Rattle.tool_files.specs.Told.{Told}

-- what is asked for: the runs of the variable within its bounds
abbrev pub runs_asked : CausesAsk → Asking
runs_asked what = all_runs (string_bytes what.name) what.bounds []

-- how a refusal is reported: a variable that is not set, by its name
abbrev pub causes_refusal : CausesAsk → RehearsalError → ProgramFault
causes_refusal what (refused.Rehearsal rehearsal.NoSuchVariable) = NoSuchVariable (path_form what.name)
causes_refusal what error = reported error

-- each answer to the causes of copies
abbrev pub TellsCausesOfCopies : Given → (check : Bool) → (old new : Sink) → Result Bool RehearsalError → Type 0
TellsCausesOfCopies g check old new (Ok fine) = TellsCauses g check old new fine
TellsCausesOfCopies g check old new (Err refused.Memory) = new ≡ old
TellsCausesOfCopies g check old new (Err error) = RefusesCauses g check old new error

-- What is asked for was read, the lines were written, and the answer is theirs; or the causes are
-- refused; or a read is refused, and files were only read. If memory runs out, nothing is written.
abbrev pub TellsCausesFrom : ByteOrder → InputsShown → CausesAsk → (out out' : Sink) →
    (old new : Told) → Result Bool ProgramFault → Type 0
TellsCausesFrom order inputs what out out' old new (Ok fine) =
    FromFiles order inputs (runs_asked what) old new (λ g. TellsCauses g what.check out out' fine)
TellsCausesFrom order inputs what out out' old new (Err (Shared Memory)) =
    OnlyReads old new × (out' ≡ out)
TellsCausesFrom order inputs what out out' old new (Err (Shared (Tool (tool.Image error)))) =
    FromFiles order inputs (runs_asked what) old new (λ g.
    RefusesCauses g what.check out out' (refused.Image error))
TellsCausesFrom order inputs what out out' old new (Err (Shared (Tool tool.Write))) =
    FromFiles order inputs (runs_asked what) old new (λ g.
    RefusesCauses g what.check out out' refused.Write)
TellsCausesFrom order inputs what out out' old new (Err (Shared (Tool error))) = ⊥
TellsCausesFrom order inputs what out out' old new (Err (Shared fault)) =
    IsNotRead inputs old new fault
TellsCausesFrom order inputs what out out' old new (Err (NoSuchVariable name)) =
    (name ≡ path_form what.name) × FromFiles order inputs (runs_asked what) old new (λ g.
    RefusesCauses g what.check out out' (refused.Rehearsal rehearsal.NoSuchVariable))
TellsCausesFrom order inputs what out out' old new (Err (program.NotARun word)) = ⊥
TellsCausesFrom order inputs what out out' old new (Err program.Boots) = ⊥
TellsCausesFrom order inputs what out out' old new (Err program.Unnamed) = ⊥
TellsCausesFrom order inputs what out out' old new (Err (program.Start error)) =
    FromFiles order inputs (runs_asked what) old new (λ g. RefusesCauses g what.check out out' (refused.Start error))
TellsCausesFrom order inputs what out out' old new (Err (program.Rehearsal error)) =
    FromFiles order inputs (runs_asked what) old new (λ g.
    RefusesCauses g what.check out out' (refused.Rehearsal error))
