-- Reporting how the runs of what was read end.
use Rattle.std.proofs.Common.{◌≡◌, ℕ, Bool, true, refl, ap, List, IfOk, IfErr, Ok, Err}
use Rattle.std.specs.Prelude.{Result}
use Rattle.output.specs.Sink.{Sink}
use Rattle.envimage.specs.declared.image.ByteOrder.{ByteOrder}
use Rattle.rehearse_terms.specs.Bounds.{BoundsShown}
use Rattle.tool_words.specs.Asked.{InputsShown}
use Rattle.tool_words.specs.declared.ask.EndingsAsk.{EndingsAsk}
use Rattle.ubtool.specs.EndingsOfImages.{RefusesEndings, TellsEndings}
use Rattle.ubtool.specs.Given.{Given, all_runs}
use Rattle.ubtool.specs.GivenByFiles.{FromFiles, given_by, script_of}
use Rattle.ubtool.specs.declared.rehearsal_error.RehearsalError.{RehearsalError}
use Rattle.rehearse_rules.specs.declared.rehearse_error.RehearseError.TheVariants as rehearsal
use Rattle.ubtool.specs.declared.rehearsal_error.RehearsalError.TheVariants as refused
use Rattle.ubtool.proofs.EndingsTurnLemmas.{broken-counted, image-untouched, never, never-boots, never-changes, never-unnamed, rehearsal-untouched, start-untouched, untouched}
use Rattle.ubtool.specs.RehearsingFiles.{LeavesOutput}
use Rattle.tool_files.specs.Told.{Told}
use Rattle.board_files.proofs.BoardLemmas.{only-read, so-of-board}
use Rattle.ubtool.specs.EndingsOfFiles.{TellsCopies, TellsFrom, all_asked, bytes_allowed, endings_refusal}
use Rattle.tool_steps.specs.Images.{copies}
use Rattle.tool_images.specs.declared.fault.Fault.{Fault}
use Rattle.tool_images.specs.declared.fault.Fault.TheVariants as fault
use Rattle.tool_steps.specs.Faults.{IsScriptReadFault}
use Rattle.board_files.specs.BoardFiles.{IsNotRead, ReadsBoard, list_of}
use Rattle.ubtool.specs.declared.fault.ProgramFault.TheVariants.{Shared}
use Rattle.board_files.specs.declared.board_files.BoardFiles.{BoardFiles}

-- ---- the endings of what was read

module _ (order : ByteOrder) (inputs : InputsShown) (what : EndingsAsk) (out out' : Sink) (board : BoardFiles) (x z : Told) (read : ReadsBoard inputs x z (Ok board)) where
  from-files : (IsSo : Given → Type 0) → IsSo (given_by order (copies board.images) (list_of board) inputs.taking (script_of board) (all_asked what)) → FromFiles order inputs (all_asked what) x z IsSo
  from-files IsSo so = so-of-board inputs board x z (λ copies list script. IsSo (given_by order copies list inputs.taking script (all_asked what))) read so

  pub tells-found : TellsCopies (given_by order (copies board.images) (list_of board) inputs.taking (script_of board) (all_asked what)) what.flow what.states what.work (bytes_allowed what) out out' (Ok tt)
      → TellsFrom order inputs what out out' x z (Ok true)
  tells-found h = (refl, from-files (λ g. TellsEndings g what.flow what.states (bytes_allowed what) out out') h)

  pub tells-refused : (error : RehearsalError) → TellsCopies (given_by order (copies board.images) (list_of board) inputs.taking (script_of board) (all_asked what)) what.flow what.states what.work (bytes_allowed what) out out' (Err error)
      → TellsFrom order inputs what out out' x z (Err (endings_refusal what error))
  tells-refused (refused.Image error) h = from-files (λ g. RefusesEndings g what.flow what.states what.work (bytes_allowed what) out out' (refused.Image error)) h
  tells-refused (refused.Rehearsal (rehearsal.DeviceList error)) h = from-files (λ g. RefusesEndings g what.flow what.states what.work (bytes_allowed what) out out' (refused.Rehearsal (rehearsal.DeviceList error))) h
  tells-refused (refused.Rehearsal rehearsal.NoSuchVariable) h = (refl, from-files (λ g. RefusesEndings g what.flow what.states what.work (bytes_allowed what) out out' (refused.Rehearsal rehearsal.NoSuchVariable)) h)
  tells-refused (refused.Rehearsal rehearsal.NotARun) h = absurd (never (given_by order (copies board.images) (list_of board) inputs.taking (script_of board) (all_asked what)) what.flow what.states what.work (bytes_allowed what) out out' rehearsal.NotARun (λ g no. no) h)
  tells-refused (refused.Rehearsal rehearsal.Write) h = absurd (never (given_by order (copies board.images) (list_of board) inputs.taking (script_of board) (all_asked what)) what.flow what.states what.work (bytes_allowed what) out out' rehearsal.Write (λ g no. no) h)
  tells-refused (refused.Rehearsal rehearsal.Memory) h = absurd (never (given_by order (copies board.images) (list_of board) inputs.taking (script_of board) (all_asked what)) what.flow what.states what.work (bytes_allowed what) out out' rehearsal.Memory (λ g no. no) h)
  tells-refused (refused.Rehearsal rehearsal.Failed) h = absurd (never (given_by order (copies board.images) (list_of board) inputs.taking (script_of board) (all_asked what)) what.flow what.states what.work (bytes_allowed what) out out' rehearsal.Failed (λ g no. no) h)
  tells-refused (refused.Rehearsal rehearsal.States) h = from-files (λ g. RefusesEndings g what.flow what.states what.work (bytes_allowed what) out out' (refused.Rehearsal rehearsal.States)) h
  tells-refused (refused.Rehearsal (rehearsal.Steps count)) h = from-files (λ g. RefusesEndings g what.flow what.states what.work (bytes_allowed what) out out' (refused.Rehearsal (rehearsal.Steps count))) h
  tells-refused (refused.Rehearsal (rehearsal.Bytes count)) h = from-files (λ g. RefusesEndings g what.flow what.states what.work (bytes_allowed what) out out' (refused.Rehearsal (rehearsal.Bytes count))) h
  tells-refused (refused.Start error) h = from-files (λ g. RefusesEndings g what.flow what.states what.work (bytes_allowed what) out out' (refused.Start error)) h
  tells-refused refused.Boots h = absurd (never-boots (given_by order (copies board.images) (list_of board) inputs.taking (script_of board) (all_asked what)) what.flow what.states what.work (bytes_allowed what) out out' h)
  tells-refused (refused.Changes error) h = absurd (never-changes (given_by order (copies board.images) (list_of board) inputs.taking (script_of board) (all_asked what)) what.flow what.states what.work (bytes_allowed what) out out' error h)
  tells-refused refused.Unnamed h = absurd (never-unnamed (given_by order (copies board.images) (list_of board) inputs.taking (script_of board) (all_asked what)) what.flow what.states what.work (bytes_allowed what) out out' h)
  tells-refused refused.Write h = from-files (λ g. RefusesEndings g what.flow what.states what.work (bytes_allowed what) out out' refused.Write) h
  tells-refused refused.Memory h = (only-read inputs board x z read, h)

-- ---- an answer, by its clauses

pub copies-told : (g : Given) (flow : Bool) (states work bytes : ℕ) (out out' : Sink) (r : Result (Unit {0}) RehearsalError) → IfOk r (λ done. TellsEndings g flow states bytes out out') → IfErr r (λ e. RefusesEndings g flow states work bytes out out' e) → TellsCopies g flow states work bytes out out' r
copies-told g flow states work bytes out out' (Ok done) ok err = ok
copies-told g flow states work bytes out out' (Err (refused.Image error)) ok err = err
copies-told g flow states work bytes out out' (Err (refused.Rehearsal error)) ok err = err
copies-told g flow states work bytes out out' (Err (refused.Start error)) ok err = err
copies-told g flow states work bytes out out' (Err refused.Boots) ok err = err
copies-told g flow states work bytes out out' (Err (refused.Changes error)) ok err = err
copies-told g flow states work bytes out out' (Err refused.Unnamed) ok err = err
copies-told g flow states work bytes out out' (Err refused.Write) ok err = err
copies-told g flow states work bytes out out' (Err refused.Memory) ok err = untouched g flow states work bytes out out' err

-- what it leaves of the output
pub leaves-refused : (g : Given) (what : EndingsAsk) (out out' : Sink) (error : RehearsalError) → TellsCopies g what.flow what.states what.work (bytes_allowed what) out out' (Err error) → LeavesOutput (Err (endings_refusal what error)) out out'
leaves-refused g what out out' (refused.Image error) h = image-untouched g what.flow what.states what.work (bytes_allowed what) out out' error h
leaves-refused g what out out' (refused.Rehearsal (rehearsal.DeviceList error)) h = rehearsal-untouched g what.flow what.states what.work (bytes_allowed what) out out' (rehearsal.DeviceList error) h
leaves-refused g what out out' (refused.Rehearsal rehearsal.NoSuchVariable) h = rehearsal-untouched g what.flow what.states what.work (bytes_allowed what) out out' rehearsal.NoSuchVariable h
leaves-refused g what out out' (refused.Rehearsal rehearsal.NotARun) h = rehearsal-untouched g what.flow what.states what.work (bytes_allowed what) out out' rehearsal.NotARun h
leaves-refused g what out out' (refused.Rehearsal (rehearsal.Steps count)) h = rehearsal-untouched g what.flow what.states what.work (bytes_allowed what) out out' (rehearsal.Steps count) h
leaves-refused g what out out' (refused.Rehearsal (rehearsal.Bytes count)) h = rehearsal-untouched g what.flow what.states what.work (bytes_allowed what) out out' (rehearsal.Bytes count) h
leaves-refused g what out out' (refused.Rehearsal rehearsal.Write) h = rehearsal-untouched g what.flow what.states what.work (bytes_allowed what) out out' rehearsal.Write h
leaves-refused g what out out' (refused.Rehearsal rehearsal.Memory) h = rehearsal-untouched g what.flow what.states what.work (bytes_allowed what) out out' rehearsal.Memory h
leaves-refused g what out out' (refused.Rehearsal rehearsal.Failed) h = rehearsal-untouched g what.flow what.states what.work (bytes_allowed what) out out' rehearsal.Failed h
leaves-refused g what out out' (refused.Rehearsal rehearsal.States) h = rehearsal-untouched g what.flow what.states what.work (bytes_allowed what) out out' rehearsal.States h
leaves-refused g what out out' (refused.Start error) h = start-untouched g what.flow what.states what.work (bytes_allowed what) out out' error h
leaves-refused g what out out' refused.Boots h = absurd (never-boots g what.flow what.states what.work (bytes_allowed what) out out' h)
leaves-refused g what out out' (refused.Changes error) h = absurd (never-changes g what.flow what.states what.work (bytes_allowed what) out out' error h)
leaves-refused g what out out' refused.Unnamed h = absurd (never-unnamed g what.flow what.states what.work (bytes_allowed what) out out' h)
leaves-refused g what out out' refused.Write h = broken-counted g what.flow what.states what.work (bytes_allowed what) out out' h
leaves-refused g what out out' refused.Memory h = ap (λ (s : Sink). s.failures) h

-- what is asked, from its parts
pub same-runs : (variable variable' : List ℕ) (bounds : BoundsShown) (names names' : List (List ℕ)) → variable ≡ variable' → names ≡ names' → all_runs variable bounds names ≡ all_runs variable' bounds names'
same-runs variable variable' bounds names names' v n = rw (v, n) refl

-- ---- a read is refused

pub unread : (order : ByteOrder) (inputs : InputsShown) (what : EndingsAsk) (out : Sink) (old new : Told) (f : Fault) → IsScriptReadFault f → IsNotRead inputs old new f → TellsFrom order inputs what out out old new (Err (Shared f))
unread order inputs what out old new fault.Memory r h = (h.0, refl)
unread order inputs what out old new (fault.Tool error) r h = absurd r
unread order inputs what out old new f r h = h
