-- Reading, changing and writing one after another.
use Rattle.std.proofs.Common.{◌≡◌, ◌∙◌, ℕ, Bool, true, false, refl, sym, subst, List, [], Option, Ok, Err, inl, inr, append-nil}
use Rattle.std.specs.Prelude.{IfErr, Result, Vec}
use Rattle.std.specs.declared.alloc.Global.{Global}
use Rattle.envimage.specs.Config.{PlaceShown}
use Rattle.envimage.specs.declared.image.ByteOrder.{ByteOrder}
use Rattle.envimage.specs.declared.image.Which.{Which}
use Rattle.tool_words.specs.declared.ask.Change.{Change}
use Rattle.tool_words.specs.declared.ask.Change.TheVariants.{Input, One, Script}
use Rattle.output.specs.Sink.{Sink}
use Rattle.tool_files.proofs.OrderLemmas.{OnlyReads-then}
use Rattle.tool_files.specs.CallOrder.{OnlyReads, are_reads}
use Rattle.tool_files.specs.Told.{Stored, Told, WritesAt}
use Rattle.tool_files.specs.declared.files.FileFault.{FileFault}
use Rattle.tool_files.specs.declared.files.FileFault.TheVariants as file
use Rattle.tool_images.proofs.SettingLemmas.{set-safe}
use Rattle.tool_images.specs.ChangingImages.{IsSafe}
use Rattle.tool_images.specs.FileFaults.{IsPathOf, written_fault}
use Rattle.tool_images.specs.declared.fault.Fault.{Fault}
use Rattle.tool_images.specs.declared.fault.Fault.TheVariants as fault
use Rattle.tool_images.specs.declared.word_form.WordForm.{WordForm}
use Rattle.tool_steps.proofs.OneCopyLemmas.{source-reads}
use Rattle.tool_steps.proofs.SpareLemmas.{over-lost}
use Rattle.tool_steps.specs.Faults.{IsReadFault, IsWriteFault}
use Rattle.tool_steps.specs.Images.{Copy}
use Rattle.tool_steps.specs.Notes.{MayTell, TellsIf, TellsNotes}
use Rattle.tool_steps.specs.OneCopy.{FindsImages, HasFound}
use Rattle.tool_steps.specs.Overlap.{are_overlapping}
use Rattle.tool_steps.specs.PrintingFiles.{first_bytes, second_bytes}
use Rattle.tool_steps.specs.ChangingFiles.{Edits, HasEdited, HasSet, IsChangeFault, IsPlaceOf, IsRefusedChange, Sets, WritesCopy, WritesIn, reads_of}
use Rattle.tool_steps.specs.declared.one_copy.ImageSource.{ImageSource}
use Rattle.tool_words.specs.CommandAnswers.{origin_shown}

-- a change that was made only reads
pub edit-reads : (input : Option (List ℕ)) (order : ByteOrder) (change : Change) (found : List Copy) (old new : Told) (which : Which) (bytes : List ℕ) → HasEdited input order change found old new which bytes
    → OnlyReads old new
edit-reads input order change found old new which bytes h = record { reads = reads_of change; calls = h.calls; all = each change; stored = h.stored }
  where
    each : (change : Change) → are_reads (reads_of change) ≡ true
    each (One name words) = refl
    each (Script path) = refl
    each Input = refl

-- a change is not refused for a write
no-write : (input : Option (List ℕ)) (order : ByteOrder) (change : Change) (found : List Copy) (stored : Stored) (path : WordForm) → IsChangeFault input order change found stored (fault.CannotWrite path) → ⊥
no-write input order (One name words) found stored path h = let e : ⊥ = cc in e
no-write input order (Script file) found stored path h = h
no-write input order Input found stored path h = h

-- the refusal of a change, seen from before the images were read
refused-change : (program : List ℕ) (input : Option (List ℕ)) (source : ImageSource) (change : Change) (found : List Copy) (err err' : Sink) (x y z : Told) (f : Fault)
    → HasFound program source err err' x y found → Edits input source.order change found y z (Err f) → OnlyReads x z × IsRefusedChange program input source change err err' x f
refused-change program input source change found err err' x y z f read h =
    let reads = source-reads program source err err' x y found read in (
      OnlyReads-then x y z reads h.0,
      record { found = found; after_images = y; read = read; refused = subst (λ (s : Stored). IsChangeFault input source.order change found s f) reads.stored h.1 },
    )

-- images that were refused
pub sets-unread : (program : List ℕ) (input : Option (List ℕ)) (source : ImageSource) (change : Change) (err err' : Sink) (old new : Told) (f : Fault) → IsReadFault f → err' ≡ err
    → FindsImages program source err err' old new (Err f) → Sets program input source change err err' old new (Err f)
sets-unread program input source change err err' old new (fault.CannotWrite path) is quiet h = absurd is
sets-unread program input source change err err' old new fault.Memory is quiet h = (h.0, tt)
sets-unread program input source change err err' old new f is quiet h = (h.0, inl (h.1, quiet))

-- a change that was refused
pub sets-refused : (program : List ℕ) (input : Option (List ℕ)) (source : ImageSource) (change : Change) (found : List Copy) (err err' : Sink) (x y z : Told) (f : Fault)
    → HasFound program source err err' x y found → Edits input source.order change found y z (Err f) → Sets program input source change err err' x z (Err f)
sets-refused program input source change found err err' x y z (fault.CannotWrite path) read h = absurd (no-write input source.order change found y.stored path h.1)
sets-refused program input source change found err err' x y z fault.Memory read h = (OnlyReads-then x y z (source-reads program source err err' x y found read) h.0, tt)
sets-refused program input source change found err err' x y z f read h =
    let c = refused-change program input source change found err err' x y z f read h in (c.0, inr c.1)

-- a write of the copy that was refused
pub write-refused : (which : Which) (found : List Copy) (bytes : List ℕ) (place : PlaceShown) (form : WordForm) (old new : Told) (k : FileFault) → IsPlaceOf which found place → IsPathOf form place.device
    → WritesAt place.device place.offset bytes old new (Err k) → WritesCopy which found bytes old new (Err (written_fault form k))
write-refused which found bytes place form old new file.Failed there is h = record { tried = record { place = place; there = there; writes = h }; path = is }
write-refused which found bytes place form old new file.Short there is h = absurd h.stored
write-refused which found bytes place form old new file.TooLong there is h = absurd h.stored
write-refused which found bytes place form old new file.Memory there is h = record { reads = []; calls = h.calls ∙ sym (append-nil old.calls); all = refl; stored = h.stored }

-- the bytes of a change that was made, written in part
changed-safe : (input : Option (List ℕ)) (order : ByteOrder) (change : Change) (found : List Copy) (old new : Told) (which : Which) (bytes : List ℕ) → HasEdited input order change found old new which bytes
    → IsSafe order (first_bytes found) (second_bytes found) which bytes
changed-safe input order change found old new which bytes made = set-safe order (first_bytes found) (second_bytes found) made.edit which bytes made.made

-- a change that was made, and the write of the copy that was tried
abbrev has-set : (program : List ℕ) (input : Option (List ℕ)) (source : ImageSource) (change : Change) (found : List Copy) (which : Which) (bytes : List ℕ) (err noted err' : Sink) (x y z w : Told)
    (r : Result (Unit {0}) FileFault) → HasFound program source err noted x y found → HasEdited input source.order change found y z which bytes → TellsIf program (are_overlapping found) noted err'
    → WritesIn which found bytes z w r → HasSet program input source change err err' x w r
has-set program input source change found which bytes err noted err' x y z w r read made warned h = record {
  found = found;
  which = which;
  bytes = bytes;
  after_images = y;
  noted = noted;
  read = read;
  after_change = z;
  edited = made;
  safe = changed-safe input source.order change found y z which bytes made;
  warned = warned;
  written = h;
  over_lost = over-lost source.one_copy (origin_shown source.origin) read.lost x y found source.order made.edit which bytes h.place read.read made.made h.there;
}

pub sets-written : (program : List ℕ) (input : Option (List ℕ)) (source : ImageSource) (change : Change) (found : List Copy) (which : Which) (bytes : Vec ℕ Global) (err noted err' : Sink) (x y z w : Told)
    (r : Result (Unit {0}) Fault) → TellsIf program (are_overlapping found) noted err' → HasFound program source err noted x y found → Edits input source.order change found y z (Ok (which, bytes))
    → WritesCopy which found bytes.items z w r → Sets program input source change err err' x w r
sets-written program input source change found which bytes err noted err' x y z w (Ok done) warned read made h =
    has-set program input source change found which bytes.items err noted err' x y z w (Ok done) read made warned h
sets-written program input source change found which bytes err noted err' x y z w (Err (fault.CannotWrite told)) warned read made h =
    record { tried = has-set program input source change found which bytes.items err noted err' x y z w (Err file.Failed) read made warned h.tried; path = h.path }
sets-written program input source change found which bytes err noted err' x y z w (Err fault.Memory) warned read made h = (
  OnlyReads-then x z w
      (OnlyReads-then x y z (source-reads program source err noted x y found read) (edit-reads input source.order change found y z which bytes.items made))
      h,
  tt,
)
sets-written program input source change found which bytes err noted err' x y z w (Err f) warned read made h = absurd h

-- ---- what is reported

may-if : (program : List ℕ) (is : Bool) (old new : Sink) → TellsIf program is old new → MayTell program true old new
may-if program true old new h = inr h
may-if program false old new h = inl h

-- before a write
pub notes-written : (program : List ℕ) (one_copy is : Bool) (r : Result (Unit {0}) Fault) (err noted err' : Sink) → IfErr r IsWriteFault → MayTell program one_copy err noted
    → TellsIf program is noted err' → TellsNotes program one_copy r err err'
notes-written program one_copy is (Ok done) err noted err' why first second = (noted, first, may-if program is noted err' second)
notes-written program one_copy is (Err (fault.CannotWrite path)) err noted err' why first second = (noted, first, may-if program is noted err' second)
notes-written program one_copy is (Err fault.Memory) err noted err' why first second = (noted, first, may-if program is noted err' second)
notes-written program one_copy is (Err f) err noted err' why first second = absurd why

-- without one
pub notes-refused : (program : List ℕ) (one_copy : Bool) (f : Fault) (err noted : Sink) → MayTell program one_copy err noted → TellsNotes {T = Unit {0}} program one_copy (Err f) err noted
notes-refused program one_copy (fault.CannotWrite path) err noted first = (noted, first, inl refl)
notes-refused program one_copy fault.Memory err noted first = (noted, first, inl refl)
notes-refused program one_copy f err noted first = first
