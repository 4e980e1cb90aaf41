-- What rehearsing images does, from files whose contents are known. The order of work is ours.
use Rattle.std.specs.Prelude.{◌≡◌, ◌⊎◌, Bool, true, Option, Some, None, option_map, Result, Ok, Err, String}
use Rattle.std.specs.declared.alloc.Global.{Global}
use Rattle.output.specs.Sink.{Sink, counted}
use Rattle.envimage.specs.declared.image.ByteOrder.{ByteOrder}
use Rattle.rehearse_runs.specs.declared.listing.Finish.{Finish}
use Rattle.tool_words.specs.CommandAnswers.{asking_of}
use Rattle.tool_words.specs.Asked.{InputsShown}
use Rattle.tool_words.specs.declared.ask.RehearseAsk.{RehearseAsk}
use Rattle.rehearse_terms.specs.WantedShown.{wanted_word}
use Rattle.tool_images.specs.FileFaults.{path_form}
use Rattle.board_files.specs.BoardFiles.{IsNotRead}
use Rattle.ubtool.specs.Given.{Given}
use Rattle.ubtool.specs.GivenByFiles.{FromFiles}
use Rattle.ubtool.specs.Headline.{LeavesRecords, Rehearses}
use Rattle.tool_files.specs.CallOrder.{OnlyReads}
use Rattle.ubtool.specs.Refusing.{Refuses}
use Rattle.tool_files.specs.Told.{Told}
use Rattle.rehearse_rules.specs.declared.rehearse_error.RehearseError.TheVariants as rehearsal
use Rattle.tool_images.specs.declared.error.ToolError.TheVariants as tool
use Rattle.ubtool.specs.Faults.{reported}
use Rattle.ubtool.specs.declared.fault.ProgramFault.{ProgramFault}
use Rattle.ubtool.specs.declared.fault.ProgramFault.TheVariants as program
use Rattle.ubtool.specs.declared.fault.ProgramFault.TheVariants.{NoSuchVariable, NotARun, Shared}
use Rattle.ubtool.specs.declared.rehearsal_error.RehearsalError.{RehearsalError}
use Rattle.ubtool.specs.declared.rehearsal_error.RehearsalError.TheVariants as refused
use Rattle.tool_images.specs.declared.fault.Fault.TheVariants.{Memory, Tool}

-- how a refusal is reported: a variable that is not set by its name, and a word that spells no run as it was given
abbrev pub no_run_of : Option (String Global) → ProgramFault
no_run_of None = program.Rehearsal rehearsal.NotARun
no_run_of (Some word) = NotARun (path_form word)

abbrev pub refusal_of : RehearseAsk → RehearsalError → ProgramFault
refusal_of what (refused.Rehearsal rehearsal.NoSuchVariable) = NoSuchVariable (path_form what.name)
refusal_of what (refused.Rehearsal rehearsal.NotARun) = no_run_of (wanted_word what.wanted)
refusal_of what error = reported error

-- running out of memory leaves the output as it was, or whole records of the listing
abbrev pub RunsOut : Given → (old new : Sink) → Type 0
RunsOut g old new = (new ≡ old) ⊎ LeavesRecords g old new

-- each answer to the rehearsal of copies
abbrev pub RehearsesCopies : Given → (old new : Sink) → Result Finish RehearsalError → Type 0
RehearsesCopies g old new (Ok finish) = Rehearses g old new finish
RehearsesCopies g old new (Err refused.Memory) = RunsOut g old new
RehearsesCopies g old new (Err error) = Refuses g old new error

-- What is asked for was read, and the whole listing was written; or the rehearsal is refused, and the
-- fault names what the words said; or a read is refused, and files were only read. If memory runs out while they are
-- read, nothing is written; if it runs out later, whole records may be written.
abbrev pub RehearsesFrom : ByteOrder → InputsShown → RehearseAsk → (out out' : Sink) →
    (old new : Told) → Result Bool ProgramFault → Type 0
RehearsesFrom order inputs what out out' old new (Ok all) =
    (all ≡ true) × FromFiles order inputs (asking_of what) old new (λ g. (finish : Finish)
    × Rehearses g out out' finish)
RehearsesFrom order inputs what out out' old new (Err (Shared Memory)) =
    (OnlyReads old new × (out' ≡ out))
    ⊎ FromFiles order inputs (asking_of what) old new (λ g. RunsOut g out out')
RehearsesFrom order inputs what out out' old new (Err (Shared (Tool (tool.Image error)))) =
    FromFiles order inputs (asking_of what) old new (λ g. Refuses g out out' (refused.Image error))
RehearsesFrom order inputs what out out' old new (Err (Shared (Tool tool.Write))) =
    FromFiles order inputs (asking_of what) old new (λ g. Refuses g out out' refused.Write)
RehearsesFrom order inputs what out out' old new (Err (Shared (Tool error))) = ⊥
RehearsesFrom order inputs what out out' old new (Err (Shared fault)) =
    IsNotRead inputs old new fault
RehearsesFrom order inputs what out out' old new (Err (NoSuchVariable name)) =
    (name ≡ path_form what.name)
    × FromFiles order inputs (asking_of what) old new (λ g.
    Refuses g out out' (refused.Rehearsal rehearsal.NoSuchVariable))
RehearsesFrom order inputs what out out' old new (Err (NotARun word)) =
    (Some word ≡ option_map path_form (wanted_word what.wanted))
    × FromFiles order inputs (asking_of what) old new (λ g.
    Refuses g out out' (refused.Rehearsal rehearsal.NotARun))
RehearsesFrom order inputs what out out' old new (Err program.Boots) = ⊥
RehearsesFrom order inputs what out out' old new (Err program.Unnamed) = ⊥
RehearsesFrom order inputs what out out' old new (Err (program.Start error)) =
    FromFiles order inputs (asking_of what) old new (λ g. Refuses g out out' (refused.Start error))
RehearsesFrom order inputs what out out' old new (Err (program.Rehearsal error)) =
    FromFiles order inputs (asking_of what) old new (λ g. Refuses g out out' (refused.Rehearsal error))

-- over any files: a reported failure of the output is counted, and any refusal but this and memory leaves the output as
-- it was
abbrev pub LeavesOutput : Result Bool ProgramFault → (old new : Sink) → Type 0
LeavesOutput (Ok all) old new = new.failures ≡ old.failures
LeavesOutput (Err (Shared (Tool tool.Write))) old new = new.failures ≡ counted old.failures
LeavesOutput (Err (Shared Memory)) old new = new.failures ≡ old.failures
LeavesOutput (Err fault) old new = new ≡ old
