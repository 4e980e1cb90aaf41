-- Reporting how the boots of what was read follow one another.
use Rattle.std.proofs.Common.{◌≡◌, Bool, refl, sym, ap, subst, Option, Some, None, IfOk, IfErr, Ok, Err, inl, inr}
use Rattle.std.specs.Prelude.{Result}
use Rattle.board_files.proofs.BoardLemmas.{only-read, so-of-board}
use Rattle.board_files.specs.BoardFiles.{IsNotRead, ReadsBoard, list_of}
use Rattle.board_files.specs.declared.board_files.BoardFiles.{BoardFiles}
use Rattle.envimage.specs.declared.image.ByteOrder.{ByteOrder}
use Rattle.output.specs.Sink.{Sink, counted}
use Rattle.rehearse_rules.specs.declared.rehearse_error.RehearseError.TheVariants as rehearsal
use Rattle.rehearse_terms.specs.State.{Text}
use Rattle.tool_files.proofs.OrderLemmas.{OnlyReads-none, OnlyReads-one, OnlyReads-then}
use Rattle.tool_files.specs.CallOrder.{OnlyReads}
use Rattle.tool_files.specs.Told.{Stored, Told}
use Rattle.tool_files.specs.declared.files.Action.TheVariants.{ReadAll}
use Rattle.tool_images.specs.declared.fault.Fault.{Fault}
use Rattle.tool_images.specs.declared.fault.Fault.TheVariants as fault
use Rattle.tool_steps.specs.Faults.{IsScriptReadFault}
use Rattle.tool_steps.specs.Images.{copies}
use Rattle.tool_words.specs.Asked.{InputsShown}
use Rattle.tool_words.specs.declared.ask.BootsAsk.{BootsAsk}
use Rattle.ubtool.specs.BootsOfFiles.{AreUnchanged, FromAllFiles, HasReadChanges, IsChangesFault, RefusesFrom, TellsBootsFrom, TellsBootsOfCopies, boots_refusal, changes_path, limits_in, runs_asked}
use Rattle.ubtool.specs.BootsOfImages.{BootLimits, RefusesBoots, TellsBoots}
use Rattle.ubtool.specs.Given.{Given}
use Rattle.ubtool.specs.GivenByFiles.{FromFiles, given_by, script_of}
use Rattle.ubtool.specs.RehearsingFiles.{LeavesOutput}
use Rattle.ubtool.specs.declared.fault.ProgramFault.TheVariants.{Shared}
use Rattle.ubtool.specs.declared.rehearsal_error.RehearsalError.{RehearsalError}
use Rattle.ubtool.specs.declared.rehearsal_error.RehearsalError.TheVariants as refused

-- ---- the boots of what was read

abbrev pub read_by : ByteOrder → InputsShown → BootsAsk → BoardFiles → Given
read_by order inputs what board =
    given_by order (copies board.images) (list_of board) inputs.taking (script_of board) (runs_asked what)

abbrev pub limits_read : ByteOrder → InputsShown → BootsAsk → BoardFiles → (changes : Option Text) → BootLimits
limits_read order inputs what board changes = limits_in inputs what changes (read_by order inputs what board)

-- what holds of what was read, but for the script of changes
board-read : (order : ByteOrder) (inputs : InputsShown) (what : BootsAsk) (board : BoardFiles) (x y : Told) (IsSo : Given → Type 0) → ReadsBoard inputs x y (Ok board) → IsSo (read_by order inputs what board)
    → FromFiles order inputs (runs_asked what) x y IsSo
board-read order inputs what board x y IsSo read so =
    so-of-board inputs board x y (λ copies list script. IsSo (given_by order copies list inputs.taking script (runs_asked what))) read so

-- the script of changes was only read
changes-reads : (path : Option Text) (old new : Told) (changes : Option Text) → HasReadChanges path old new changes → OnlyReads old new
changes-reads None old new None h = subst (λ (t : Told). OnlyReads old t) (sym h) (OnlyReads-none old)
changes-reads None old new (Some changes) h = absurd h
changes-reads (Some path) old new None h = absurd h
changes-reads (Some path) old new (Some changes) h = OnlyReads-one path ReadAll old new refl h.calls h.stored

module _ (order : ByteOrder) (inputs : InputsShown) (what : BootsAsk) (out out' : Sink) (board : BoardFiles) (changes : Option Text) (x y z : Told) (read : ReadsBoard inputs x y (Ok board)) (more : HasReadChanges (changes_path what) y z changes) where
  from-all : (IsSo : Given → (changes : Option Text) → Type 0) → IsSo (read_by order inputs what board) changes → FromAllFiles order inputs what x z IsSo
  from-all IsSo so = record {
    middle = y;
    changes = changes;
    board = board-read order inputs what board x y (λ g. IsSo g changes) read so;
    read = more;
  }

  pub boots-found : (holds : Bool) → TellsBootsOfCopies (read_by order inputs what board) (limits_read order inputs what board changes) out out' (Ok holds)
      → TellsBootsFrom order inputs what out out' x z (Ok holds)
  boots-found holds h = from-all (λ g script. TellsBoots g (limits_in inputs what script g) out out' holds) h

  refuses-from : (error : RehearsalError) → RefusesBoots (read_by order inputs what board) (limits_read order inputs what board changes) out out' error
      → RefusesFrom order inputs what out out' x z error
  refuses-from error h = from-all (λ g script. RefusesBoots g (limits_in inputs what script g) out out' error) h

  pub boots-refused : (error : RehearsalError) → TellsBootsOfCopies (read_by order inputs what board) (limits_read order inputs what board changes) out out' (Err error)
      → TellsBootsFrom order inputs what out out' x z (Err (boots_refusal what error))
  boots-refused (refused.Image error) h = refuses-from (refused.Image error) h
  boots-refused (refused.Rehearsal (rehearsal.DeviceList error)) h = refuses-from (refused.Rehearsal (rehearsal.DeviceList error)) h
  boots-refused (refused.Rehearsal rehearsal.NoSuchVariable) h = (refl, refuses-from (refused.Rehearsal rehearsal.NoSuchVariable) h)
  boots-refused (refused.Rehearsal rehearsal.States) h = refuses-from (refused.Rehearsal rehearsal.States) h
  boots-refused (refused.Rehearsal (rehearsal.Steps count)) h = refuses-from (refused.Rehearsal (rehearsal.Steps count)) h
  boots-refused (refused.Rehearsal (rehearsal.Bytes count)) h = refuses-from (refused.Rehearsal (rehearsal.Bytes count)) h
  boots-refused (refused.Rehearsal rehearsal.NotARun) h = absurd h
  boots-refused (refused.Rehearsal rehearsal.Write) h = absurd h
  boots-refused (refused.Rehearsal rehearsal.Memory) h = absurd h
  boots-refused (refused.Rehearsal rehearsal.Failed) h = absurd h
  boots-refused (refused.Start error) h = refuses-from (refused.Start error) h
  boots-refused (refused.Changes error) h = refuses-from (refused.Changes error) h
  boots-refused refused.Boots h = refuses-from refused.Boots h
  boots-refused refused.Unnamed h = refuses-from refused.Unnamed h
  boots-refused refused.Write h = refuses-from refused.Write h
  boots-refused refused.Memory h = (OnlyReads-then x y z (only-read inputs board x y read) (changes-reads (changes_path what) y z changes more), h)

-- ---- an answer, by its clauses

pub boots-told : (g : Given) (limits : BootLimits) (out out' : Sink) (r : Result Bool RehearsalError) → IfOk r (λ holds. TellsBoots g limits out out' holds) → IfErr r (λ e. RefusesBoots g limits out out' e)
    → TellsBootsOfCopies g limits out out' r
boots-told g limits out out' (Ok holds) ok err = ok
boots-told g limits out out' (Err (refused.Image error)) ok err = err
boots-told g limits out out' (Err (refused.Rehearsal error)) ok err = err
boots-told g limits out out' (Err (refused.Start error)) ok err = err
boots-told g limits out out' (Err (refused.Changes error)) ok err = err
boots-told g limits out out' (Err refused.Boots) ok err = err
boots-told g limits out out' (Err refused.Unnamed) ok err = err
boots-told g limits out out' (Err refused.Write) ok err = err
boots-told g limits out out' (Err refused.Memory) ok err = err.1

-- ---- what it leaves of the output

pub told-sound : (g : Given) (limits : BootLimits) (out out' : Sink) (holds : Bool) → TellsBoots g limits out out' holds → out'.failures ≡ out.failures
told-sound g limits out out' holds h = h.so.2.sound

pub broken-counted : (g : Given) (limits : BootLimits) (out out' : Sink) → RefusesBoots g limits out out' refused.Write → out'.failures ≡ counted out.failures
broken-counted g limits out out' h = h.so.3.failed

pub leaves-refused : (g : Given) (limits : BootLimits) (what : BootsAsk) (out out' : Sink) (error : RehearsalError) → TellsBootsOfCopies g limits out out' (Err error) → LeavesOutput (Err (boots_refusal what error)) out out'
leaves-refused g limits what out out' (refused.Image error) h = h.1
leaves-refused g limits what out out' (refused.Rehearsal (rehearsal.DeviceList error)) h = h.so.1
leaves-refused g limits what out out' (refused.Rehearsal rehearsal.NoSuchVariable) h = h.so.1
leaves-refused g limits what out out' (refused.Rehearsal rehearsal.States) h = h.so.1
leaves-refused g limits what out out' (refused.Rehearsal (rehearsal.Steps count)) h = h.so.1
leaves-refused g limits what out out' (refused.Rehearsal (rehearsal.Bytes count)) h = h.so.1
leaves-refused g limits what out out' (refused.Rehearsal rehearsal.NotARun) h = absurd h
leaves-refused g limits what out out' (refused.Rehearsal rehearsal.Write) h = absurd h
leaves-refused g limits what out out' (refused.Rehearsal rehearsal.Memory) h = absurd h
leaves-refused g limits what out out' (refused.Rehearsal rehearsal.Failed) h = absurd h
leaves-refused g limits what out out' (refused.Start error) h = h.so.1
leaves-refused g limits what out out' (refused.Changes error) h = h.so.1
leaves-refused g limits what out out' refused.Boots h = h.so.1
leaves-refused g limits what out out' refused.Unnamed h = h.1
leaves-refused g limits what out out' refused.Write h = broken-counted g limits out out' h
leaves-refused g limits what out out' refused.Memory h = ap (λ (s : Sink). s.failures) h

-- ---- a read is refused

pub unread : (order : ByteOrder) (inputs : InputsShown) (what : BootsAsk) (out : Sink) (old new : Told) (f : Fault) → IsScriptReadFault f → IsNotRead inputs old new f → TellsBootsFrom order inputs what out out old new (Err (Shared f))
unread order inputs what out old new fault.Memory r h = (h.0, refl)
unread order inputs what out old new (fault.Tool error) r h = absurd r
unread order inputs what out old new f r h = inl h

module _ (order : ByteOrder) (inputs : InputsShown) (what : BootsAsk) (out : Sink) (board : BoardFiles) (x y z : Told) (read : ReadsBoard inputs x y (Ok board)) where
  -- all but the script of changes was read
  are-unchanged : (f : Fault) → IsChangesFault (changes_path what) y.stored f → AreUnchanged order inputs what x f
  are-unchanged f h = record {
    middle = y;
    board = board-read order inputs what board x y (λ g. Unit {0}) read tt;
    refused = subst (λ (s : Stored). IsChangesFault (changes_path what) s f) (only-read inputs board x y read).stored h;
  }

  pub unchanged : (f : Fault) → IsScriptReadFault f → OnlyReads y z × IsChangesFault (changes_path what) y.stored f → TellsBootsFrom order inputs what out out x z (Err (Shared f))
  unchanged fault.Memory r h = (OnlyReads-then x y z (only-read inputs board x y read) h.0, refl)
  unchanged (fault.Tool error) r h = absurd r
  unchanged f r h = inr (OnlyReads-then x y z (only-read inputs board x y read) h.0, are-unchanged f h.1)
