-- Reporting what has to fail for the endings of what was read.
use Rattle.std.proofs.Common.{Bool, refl, ap, IfOk, IfErr, Ok, Err}
use Rattle.std.specs.Prelude.{Result}
use Rattle.output.specs.Sink.{Sink}
use Rattle.envimage.specs.declared.image.ByteOrder.{ByteOrder}
use Rattle.tool_words.specs.Asked.{InputsShown}
use Rattle.tool_words.specs.declared.ask.CausesAsk.{CausesAsk}
use Rattle.ubtool.specs.CausesOfImages.{RefusesCauses, TellsCauses}
use Rattle.ubtool.specs.Given.{Given}
use Rattle.ubtool.specs.GivenByFiles.{FromFiles, given_by, script_of}
use Rattle.ubtool.specs.declared.rehearsal_error.RehearsalError.{RehearsalError}
use Rattle.rehearse_rules.specs.declared.rehearse_error.RehearseError.TheVariants as rehearsal
use Rattle.ubtool.specs.declared.rehearsal_error.RehearsalError.TheVariants as refused
use Rattle.ubtool.proofs.CausesTurnLemmas.{broken-counted, image-untouched, never, never-boots, never-changes, never-unnamed, rehearsal-untouched, start-untouched, untouched}
use Rattle.ubtool.specs.RehearsingFiles.{LeavesOutput}
use Rattle.tool_files.specs.Told.{Told}
use Rattle.board_files.proofs.BoardLemmas.{only-read, so-of-board}
use Rattle.ubtool.specs.CausesOfFiles.{TellsCausesFrom, TellsCausesOfCopies, causes_refusal, runs_asked}
use Rattle.tool_steps.specs.Images.{copies}
use Rattle.tool_images.specs.declared.fault.Fault.{Fault}
use Rattle.tool_images.specs.declared.fault.Fault.TheVariants as fault
use Rattle.tool_steps.specs.Faults.{IsScriptReadFault}
use Rattle.board_files.specs.BoardFiles.{IsNotRead, ReadsBoard, list_of}
use Rattle.ubtool.specs.declared.fault.ProgramFault.TheVariants.{Shared}
use Rattle.board_files.specs.declared.board_files.BoardFiles.{BoardFiles}

-- ---- the causes of what was read

module _ (order : ByteOrder) (inputs : InputsShown) (what : CausesAsk) (out out' : Sink) (board : BoardFiles) (x z : Told) (read : ReadsBoard inputs x z (Ok board)) where
  from-files : (IsSo : Given → Type 0) → IsSo (given_by order (copies board.images) (list_of board) inputs.taking (script_of board) (runs_asked what)) → FromFiles order inputs (runs_asked what) x z IsSo
  from-files IsSo so = so-of-board inputs board x z (λ copies list script. IsSo (given_by order copies list inputs.taking script (runs_asked what))) read so

  pub causes-found : (fine : Bool) → TellsCausesOfCopies (given_by order (copies board.images) (list_of board) inputs.taking (script_of board) (runs_asked what)) what.check out out' (Ok fine)
      → TellsCausesFrom order inputs what out out' x z (Ok fine)
  causes-found fine h = from-files (λ g. TellsCauses g what.check out out' fine) h

  pub causes-refused : (error : RehearsalError) → TellsCausesOfCopies (given_by order (copies board.images) (list_of board) inputs.taking (script_of board) (runs_asked what)) what.check out out' (Err error)
      → TellsCausesFrom order inputs what out out' x z (Err (causes_refusal what error))
  causes-refused (refused.Image error) h = from-files (λ g. RefusesCauses g what.check out out' (refused.Image error)) h
  causes-refused (refused.Rehearsal (rehearsal.DeviceList error)) h = from-files (λ g. RefusesCauses g what.check out out' (refused.Rehearsal (rehearsal.DeviceList error))) h
  causes-refused (refused.Rehearsal rehearsal.NoSuchVariable) h = (refl, from-files (λ g. RefusesCauses g what.check out out' (refused.Rehearsal rehearsal.NoSuchVariable)) h)
  causes-refused (refused.Rehearsal rehearsal.NotARun) h = absurd (never (given_by order (copies board.images) (list_of board) inputs.taking (script_of board) (runs_asked what)) what.check out out' rehearsal.NotARun (λ g no. no) h)
  causes-refused (refused.Rehearsal rehearsal.Write) h = absurd (never (given_by order (copies board.images) (list_of board) inputs.taking (script_of board) (runs_asked what)) what.check out out' rehearsal.Write (λ g no. no) h)
  causes-refused (refused.Rehearsal rehearsal.Memory) h = absurd (never (given_by order (copies board.images) (list_of board) inputs.taking (script_of board) (runs_asked what)) what.check out out' rehearsal.Memory (λ g no. no) h)
  causes-refused (refused.Rehearsal rehearsal.Failed) h = absurd (never (given_by order (copies board.images) (list_of board) inputs.taking (script_of board) (runs_asked what)) what.check out out' rehearsal.Failed (λ g no. no) h)
  causes-refused (refused.Rehearsal rehearsal.States) h = absurd (never (given_by order (copies board.images) (list_of board) inputs.taking (script_of board) (runs_asked what)) what.check out out' rehearsal.States (λ g no. no) h)
  causes-refused (refused.Rehearsal (rehearsal.Steps count)) h = absurd (never (given_by order (copies board.images) (list_of board) inputs.taking (script_of board) (runs_asked what)) what.check out out' (rehearsal.Steps count) (λ g no. no) h)
  causes-refused (refused.Rehearsal (rehearsal.Bytes count)) h = absurd (never (given_by order (copies board.images) (list_of board) inputs.taking (script_of board) (runs_asked what)) what.check out out' (rehearsal.Bytes count) (λ g no. no) h)
  causes-refused (refused.Start error) h = from-files (λ g. RefusesCauses g what.check out out' (refused.Start error)) h
  causes-refused refused.Boots h = absurd (never-boots (given_by order (copies board.images) (list_of board) inputs.taking (script_of board) (runs_asked what)) what.check out out' h)
  causes-refused (refused.Changes error) h = absurd (never-changes (given_by order (copies board.images) (list_of board) inputs.taking (script_of board) (runs_asked what)) what.check out out' error h)
  causes-refused refused.Unnamed h = absurd (never-unnamed (given_by order (copies board.images) (list_of board) inputs.taking (script_of board) (runs_asked what)) what.check out out' h)
  causes-refused refused.Write h = from-files (λ g. RefusesCauses g what.check out out' refused.Write) h
  causes-refused refused.Memory h = (only-read inputs board x z read, h)

-- ---- an answer, by its clauses

pub causes-told : (g : Given) (check : Bool) (out out' : Sink) (r : Result Bool RehearsalError) → IfOk r (λ fine. TellsCauses g check out out' fine) → IfErr r (λ e. RefusesCauses g check out out' e) → TellsCausesOfCopies g check out out' r
causes-told g check out out' (Ok fine) ok err = ok
causes-told g check out out' (Err (refused.Image error)) ok err = err
causes-told g check out out' (Err (refused.Rehearsal error)) ok err = err
causes-told g check out out' (Err (refused.Start error)) ok err = err
causes-told g check out out' (Err refused.Boots) ok err = err
causes-told g check out out' (Err (refused.Changes error)) ok err = err
causes-told g check out out' (Err refused.Unnamed) ok err = err
causes-told g check out out' (Err refused.Write) ok err = err
causes-told g check out out' (Err refused.Memory) ok err = untouched g check out out' err

-- what it leaves of the output
pub leaves-refused : (g : Given) (what : CausesAsk) (out out' : Sink) (error : RehearsalError) → TellsCausesOfCopies g what.check out out' (Err error) → LeavesOutput (Err (causes_refusal what error)) out out'
leaves-refused g what out out' (refused.Image error) h = image-untouched g what.check out out' error h
leaves-refused g what out out' (refused.Rehearsal (rehearsal.DeviceList error)) h = rehearsal-untouched g what.check out out' (rehearsal.DeviceList error) h
leaves-refused g what out out' (refused.Rehearsal rehearsal.NotARun) h = rehearsal-untouched g what.check out out' rehearsal.NotARun h
leaves-refused g what out out' (refused.Rehearsal rehearsal.Write) h = rehearsal-untouched g what.check out out' rehearsal.Write h
leaves-refused g what out out' (refused.Rehearsal rehearsal.Memory) h = rehearsal-untouched g what.check out out' rehearsal.Memory h
leaves-refused g what out out' (refused.Rehearsal rehearsal.Failed) h = rehearsal-untouched g what.check out out' rehearsal.Failed h
leaves-refused g what out out' (refused.Rehearsal rehearsal.States) h = rehearsal-untouched g what.check out out' rehearsal.States h
leaves-refused g what out out' (refused.Rehearsal (rehearsal.Steps count)) h = rehearsal-untouched g what.check out out' (rehearsal.Steps count) h
leaves-refused g what out out' (refused.Rehearsal (rehearsal.Bytes count)) h = rehearsal-untouched g what.check out out' (rehearsal.Bytes count) h
leaves-refused g what out out' (refused.Rehearsal rehearsal.NoSuchVariable) h = rehearsal-untouched g what.check out out' rehearsal.NoSuchVariable h
leaves-refused g what out out' (refused.Start error) h = start-untouched g what.check out out' error h
leaves-refused g what out out' refused.Boots h = absurd (never-boots g what.check out out' h)
leaves-refused g what out out' (refused.Changes error) h = absurd (never-changes g what.check out out' error h)
leaves-refused g what out out' refused.Unnamed h = absurd (never-unnamed g what.check out out' h)
leaves-refused g what out out' refused.Write h = broken-counted g what.check out out' h
leaves-refused g what out out' refused.Memory h = ap (λ (s : Sink). s.failures) h

-- ---- a read is refused

pub unread : (order : ByteOrder) (inputs : InputsShown) (what : CausesAsk) (out : Sink) (old new : Told) (f : Fault) → IsScriptReadFault f → IsNotRead inputs old new f → TellsCausesFrom order inputs what out out old new (Err (Shared f))
unread order inputs what out old new fault.Memory r h = (h.0, refl)
unread order inputs what out old new (fault.Tool error) r h = absurd r
unread order inputs what out old new f r h = h
