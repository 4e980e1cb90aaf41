-- Rehearsing what was read.
use Rattle.std.proofs.Common.{◌≡◌, ℕ, true, refl, sym, ap, List, IfOk, IfErr, Option, Some, None, Ok, Err, inl, inr}
use Rattle.std.specs.Prelude.{Result, option_map, String}
use Rattle.std.specs.declared.alloc.Global.{Global}
use Rattle.output.specs.Sink.{Sink}
use Rattle.envimage.specs.declared.image.ByteOrder.{ByteOrder}
use Rattle.rehearse_terms.specs.Asking.{Asking, Wanted}
use Rattle.rehearse_terms.specs.Bounds.{BoundsShown}
use Rattle.tool_words.specs.CommandAnswers.{asking_of}
use Rattle.rehearse_runs.specs.declared.listing.Finish.{Finish}
use Rattle.tool_words.specs.Asked.{InputsShown}
use Rattle.tool_words.specs.declared.ask.RehearseAsk.{RehearseAsk}
use Rattle.tool_images.specs.FileFaults.{path_form}
use Rattle.ubtool.specs.Given.{Given}
use Rattle.ubtool.specs.GivenByFiles.{FromFiles, given_by, script_of}
use Rattle.ubtool.specs.Headline.{Rehearses}
use Rattle.ubtool.specs.Refusing.{Refuses}
use Rattle.tool_files.specs.Told.{Told}
use Rattle.ubtool.specs.declared.rehearsal_error.RehearsalError.{RehearsalError}
use Rattle.rehearse_rules.specs.declared.rehearse_error.RehearseError.TheVariants as rehearsal
use Rattle.ubtool.specs.declared.rehearsal_error.RehearsalError.TheVariants as refused
use Rattle.board_files.proofs.BoardLemmas.{so-of-board}
use Rattle.tool_steps.specs.Images.{copies}
use Rattle.board_files.specs.declared.board_files.BoardFiles.{BoardFiles}
use Rattle.ubtool.specs.RehearsingFiles.{RehearsesCopies, RehearsesFrom, RunsOut, no_run_of, refusal_of}
use Rattle.tool_images.specs.declared.fault.Fault.{Fault}
use Rattle.tool_images.specs.declared.fault.Fault.TheVariants as fault
use Rattle.tool_steps.specs.Faults.{IsScriptReadFault}
use Rattle.board_files.specs.BoardFiles.{IsNotRead, ReadsBoard, list_of}
use Rattle.ubtool.specs.declared.fault.ProgramFault.TheVariants.{Shared}
use Rattle.rehearse_terms.specs.WantedShown.{wanted_word}

abbrev pub asking_made : (variable : List ℕ) → BoundsShown → Wanted → (names : List (List ℕ)) → Asking
asking_made variable bounds wanted names = record { variable = variable; bounds = bounds; wanted = wanted; names = names }

-- ---- the rehearsal of what was read

module _ (order : ByteOrder) (inputs : InputsShown) (what : RehearseAsk) (out out' : Sink) (board : BoardFiles) (x z : Told) (read : ReadsBoard inputs x z (Ok board)) where
  from-files : (IsSo : Given → Type 0) → IsSo (given_by order (copies board.images) (list_of board) inputs.taking (script_of board) (asking_of what)) → FromFiles order inputs (asking_of what) x z IsSo
  from-files IsSo so = so-of-board inputs board x z (λ copies list script. IsSo (given_by order copies list inputs.taking script (asking_of what))) read so

  pub rehearses-found : (finish : Finish) → RehearsesCopies (given_by order (copies board.images) (list_of board) inputs.taking (script_of board) (asking_of what)) out out' (Ok finish) → RehearsesFrom order inputs what out out' x z (Ok true)
  rehearses-found finish h = (refl, from-files (λ g. (f : Finish) × Rehearses g out out' f) (finish, h))

  no-run : (given : Option (String Global)) → wanted_word what.wanted ≡ given
      → FromFiles order inputs (asking_of what) x z (λ g. Refuses g out out' (refused.Rehearsal rehearsal.NotARun)) → RehearsesFrom order inputs what out out' x z (Err (no_run_of given))
  no-run None is h = h
  no-run (Some word) is h = (ap (option_map path_form) (sym is), h)

  pub rehearses-refused : (error : RehearsalError) → RehearsesCopies (given_by order (copies board.images) (list_of board) inputs.taking (script_of board) (asking_of what)) out out' (Err error)
      → RehearsesFrom order inputs what out out' x z (Err (refusal_of what error))
  rehearses-refused (refused.Image error) h = from-files (λ g. Refuses g out out' (refused.Image error)) h
  rehearses-refused (refused.Rehearsal (rehearsal.DeviceList error)) h = from-files (λ g. Refuses g out out' (refused.Rehearsal (rehearsal.DeviceList error))) h
  rehearses-refused (refused.Rehearsal rehearsal.NoSuchVariable) h = (refl, from-files (λ g. Refuses g out out' (refused.Rehearsal rehearsal.NoSuchVariable)) h)
  rehearses-refused (refused.Rehearsal rehearsal.States) h = absurd h
  rehearses-refused (refused.Rehearsal (rehearsal.Steps count)) h = absurd h
  rehearses-refused (refused.Rehearsal (rehearsal.Bytes count)) h = absurd h
  rehearses-refused (refused.Rehearsal rehearsal.Write) h = absurd h
  rehearses-refused (refused.Rehearsal rehearsal.Memory) h = absurd h
  rehearses-refused (refused.Rehearsal rehearsal.Failed) h = absurd h
  rehearses-refused (refused.Rehearsal rehearsal.NotARun) h = no-run (wanted_word what.wanted) refl (from-files (λ g. Refuses g out out' (refused.Rehearsal rehearsal.NotARun)) h)
  rehearses-refused (refused.Start error) h = from-files (λ g. Refuses g out out' (refused.Start error)) h
  rehearses-refused refused.Boots h = absurd h
  rehearses-refused (refused.Changes error) h = absurd h
  rehearses-refused refused.Unnamed h = absurd h
  rehearses-refused refused.Write h = from-files (λ g. Refuses g out out' refused.Write) h
  rehearses-refused refused.Memory h = inr (from-files (λ g. RunsOut g out out') h)

-- ---- what is asked, and an answer, by its clauses

-- what is asked, from its parts
pub same-asking : (variable variable' : List ℕ) (bounds bounds' : BoundsShown) (wanted wanted' : Wanted) (names names' : List (List ℕ)) → variable ≡ variable' → bounds ≡ bounds' → wanted ≡ wanted' → names ≡ names'
    → asking_made variable bounds wanted names ≡ asking_made variable' bounds' wanted' names'
same-asking variable variable' bounds bounds' wanted wanted' names names' v b w n = rw (v, b, w, n) refl

pub copies-rehearsed : (g : Given) (out out' : Sink) (r : Result Finish RehearsalError) → IfOk r (λ finish. Rehearses g out out' finish) → IfErr r (λ e. Refuses g out out' e) → RehearsesCopies g out out' r
copies-rehearsed g out out' (Ok finish) ok err = ok
copies-rehearsed g out out' (Err (refused.Image error)) ok err = err
copies-rehearsed g out out' (Err (refused.Rehearsal error)) ok err = err
copies-rehearsed g out out' (Err (refused.Start error)) ok err = err
copies-rehearsed g out out' (Err refused.Boots) ok err = err
copies-rehearsed g out out' (Err (refused.Changes error)) ok err = err
copies-rehearsed g out out' (Err refused.Unnamed) ok err = err
copies-rehearsed g out out' (Err refused.Write) ok err = err
copies-rehearsed g out out' (Err refused.Memory) ok (inl same) = inl same.1
copies-rehearsed g out out' (Err refused.Memory) ok (inr h) = inr h

-- ---- a read is refused

pub unread : (order : ByteOrder) (inputs : InputsShown) (what : RehearseAsk) (out : Sink) (old new : Told) (f : Fault) → IsScriptReadFault f → IsNotRead inputs old new f → RehearsesFrom order inputs what out out old new (Err (Shared f))
unread order inputs what out old new fault.Memory r h = inl (h.0, refl)
unread order inputs what out old new (fault.Tool error) r h = absurd r
unread order inputs what out old new f r h = h
