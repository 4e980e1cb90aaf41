-- What changing the environment in the images of a configuration does, on files whose contents are known, with an input
-- whose bytes are known, or are not. It follows fw_setenv (U-Boot, tools/env README). The order of work is ours.
use Rattle.std.specs.Prelude.{◌≡◌, ◌⊎◌, IfSome, ℕ, List, [], ◌∷◌, ◌++◌, map, Option, Some, Result, Ok, Err, Vec, string_bytes}
use Rattle.std.specs.declared.alloc.Global.{Global}
use Rattle.envimage.specs.Config.{PlaceShown}
use Rattle.envimage.specs.declared.image.ByteOrder.{ByteOrder}
use Rattle.envimage.specs.declared.image.Which.{Which}
use Rattle.envimage.specs.declared.image.Which.TheVariants.{First, Second}
use Rattle.tool_words.specs.declared.ask.Change.{Change}
use Rattle.tool_words.specs.declared.ask.Change.TheVariants.{Input, One, Script}
use Rattle.tool_files.specs.CallOrder.{OnlyReads}
use Rattle.tool_images.specs.ChangingImages.{IsSafe, set_of}
use Rattle.tool_files.specs.Told.{Stored, Told, WritesAt, file_at}
use Rattle.tool_images.specs.declared.change.Edit.{Edit}
use Rattle.tool_images.specs.declared.change.Edit.TheVariants as edit
use Rattle.tool_images.specs.declared.error.ToolError.{ToolError}
use Rattle.tool_images.specs.declared.error.ToolError.TheVariants.{Memory, Write}
use Rattle.tool_images.specs.FileFaults.{IsPathOf}
use Rattle.tool_images.specs.declared.fault.Fault.{Fault}
use Rattle.tool_images.specs.declared.fault.Fault.TheVariants.{CannotWrite, Tool}
use Rattle.tool_images.specs.declared.fault.Fault.TheVariants as faults
use Rattle.tool_files.specs.declared.files.Action.{Action}
use Rattle.tool_files.specs.declared.files.Action.TheVariants.{ReadAll}
use Rattle.tool_files.specs.declared.files.FileFault.{FileFault}
use Rattle.tool_files.specs.declared.files.FileFault.TheVariants.{Failed}
use Rattle.tool_images.specs.declared.word_form.WordForm.{WordForm}
use Rattle.tool_steps.specs.Images.{Copy}
use Rattle.tool_steps.specs.Notes.{TellsIf}
use Rattle.tool_steps.specs.OneCopy.{HasFound, IsUnfound}
use Rattle.tool_steps.specs.Overlap.{are_overlapping}
use Rattle.tool_steps.specs.PrintingFiles.{first_bytes, second_bytes}
use Rattle.tool_steps.specs.ReadingFiles.{IsInput, IsInputFault, IsTextFault}
use Rattle.tool_steps.specs.declared.one_copy.ImageSource.{ImageSource}
use Rattle.tool_words.specs.CommandAnswers.{origin_shown}
use Rattle.output.specs.Sink.{Sink}

-- which copy is written after an edit, and its bytes, or the refusal
abbrev pub edited : ByteOrder → List Copy → Edit → Result (Which × List ℕ) ToolError
edited order found change = set_of order (first_bytes found) (second_bytes found) change

-- the answer is this refusal
abbrev pub IsRefusal : ToolError → Result (Which × List ℕ) ToolError → Type 0
IsRefusal Memory answer = ⊥
IsRefusal Write answer = ⊥
IsRefusal error answer = answer ≡ Err error

-- the copy and its bytes, or the refusal; memory may run out in place of any answer
abbrev pub IsEdited : ByteOrder → List Copy → Edit → Result (Which × Vec ℕ Global) Fault → Type 0
IsEdited order found change (Ok w) = edited order found change ≡ Ok (w.0, w.1.items)
IsEdited order found change (Err (Tool error)) = IsRefusal error (edited order found change)
IsEdited order found change (Err faults.Memory) = Unit {0}
IsEdited order found change (Err fault) = ⊥

-- what a change says: a variable and its words, or the text of the script in the files or on the input
abbrev pub IsEdit : (input : Option (List ℕ)) → Change → Stored → Edit → Type 0
IsEdit input (One name words) stored (edit.One n ws) =
    (n.now ≡ string_bytes name) × (map (λ w. w.now) ws.now ≡ map string_bytes words.items)
IsEdit input (Script path) stored (edit.Script text) = file_at (string_bytes path) stored ≡ Some text.now
IsEdit input Input stored (edit.Script text) = IsInput input text.now
IsEdit input change stored _ = ⊥

-- the reads of files that a change needs
abbrev pub reads_of : Change → List (List ℕ × Action)
reads_of (One name words) = []
reads_of (Script path) = (string_bytes path, ReadAll) ∷ []
reads_of Input = []

-- The change was made, in memory, of copies that were found.
pub record HasEdited (input : Option (List ℕ)) (order : ByteOrder) (change : Change) (found : List Copy)
    (old new : Told) (which : Which) (bytes : List ℕ) : Type 0 where
  pub edit : Edit
  pub says : IsEdit input change old.stored edit
  pub made : edited order found edit ≡ Ok (which, bytes)
  pub calls : new.calls ≡ old.calls ++ reads_of change
  pub stored : new.stored ≡ old.stored

-- The change is refused for what it says.
pub record IsUnmade (input : Option (List ℕ)) (order : ByteOrder) (change : Change) (found : List Copy)
    (stored : Stored) (error : ToolError) : Type 0 where
  pub edit : Edit
  pub says : IsEdit input change stored edit
  pub refusal : IsRefusal error (edited order found edit)

-- why a change may be refused: by what it says of these copies, or by the file or the input of its script
abbrev pub IsChangeFault : (input : Option (List ℕ)) → ByteOrder → Change → List Copy → Stored → Fault → Type 0
IsChangeFault input order change found stored (Tool error) = IsUnmade input order change found stored error
IsChangeFault input order (One name words) found stored fault = fault ≡ faults.Memory
IsChangeFault input order (Script path) found stored fault =
    IsTextFault (string_bytes path) (file_at (string_bytes path) stored) fault
IsChangeFault input order Input found stored fault = IsInputFault input fault

-- the change was made, or refused, and files were only read
abbrev pub Edits : (input : Option (List ℕ)) → ByteOrder → Change → List Copy → Told → Told →
    Result (Which × Vec ℕ Global) Fault → Type 0
Edits input order change found old new (Ok w) = HasEdited input order change found old new w.0 w.1.items
Edits input order change found old new (Err fault) =
    OnlyReads old new × IsChangeFault input order change found old.stored fault

-- the place of a copy; a single image has one
abbrev pub IsPlaceOf : Which → List Copy → PlaceShown → Type 0
IsPlaceOf which [] place = ⊥
IsPlaceOf which (copy ∷ []) place = place ≡ copy.0
IsPlaceOf First (copy ∷ second ∷ more) place = place ≡ copy.0
IsPlaceOf Second (copy ∷ second ∷ more) place = place ≡ second.0

-- The bytes were written at the place of the copy, or that write was tried.
pub record WritesIn (which : Which) (found : List Copy) (bytes : List ℕ) (old new : Told)
    (answer : Result (Unit {0}) FileFault) : Type 0 where
  pub place : PlaceShown
  pub there : IsPlaceOf which found place
  pub writes : WritesAt place.device place.offset bytes old new answer

-- That write failed, and the fault names the device.
pub record FailsToWrite (which : Which) (found : List Copy) (bytes : List ℕ) (old new : Told) (told : WordForm) :
    Type 0 where
  pub tried : WritesIn which found bytes old new (Err Failed)
  pub path : IsPathOf told tried.place.device

-- one write at the place of the copy, done or failed; or none, if memory ran out
abbrev pub WritesCopy : Which → List Copy → List ℕ → Told → Told → Result (Unit {0}) Fault → Type 0
WritesCopy which found bytes old new (Ok done) = WritesIn which found bytes old new (Ok done)
WritesCopy which found bytes old new (Err (CannotWrite told)) = FailsToWrite which found bytes old new told
WritesCopy which found bytes old new (Err faults.Memory) = OnlyReads old new
WritesCopy which found bytes old new (Err fault) = ⊥

-- The images were found, the change was made, and then one copy was written, or that write was tried. If only a prefix
-- of the bytes was written to a pair, loading gives what it gave before, or that copy is right. If a copy was lost, its
-- place is the one that is written. Before the write, one line says so if the
-- places of the copies share a byte.
pub record HasSet (program : List ℕ) (input : Option (List ℕ)) (source : ImageSource) (change : Change)
    (err err' : Sink) (old new : Told) (answer : Result (Unit {0}) FileFault) : Type 0 where
  pub found : List Copy
  pub which : Which
  pub bytes : List ℕ
  pub after_images : Told
  pub noted : Sink
  pub read : HasFound program source err noted old after_images found
  pub after_change : Told
  pub edited : HasEdited input source.order change found after_images after_change which bytes
  pub safe : IsSafe source.order (first_bytes found) (second_bytes found) which bytes
  pub warned : TellsIf program (are_overlapping found) noted err'
  pub written : WritesIn which found bytes after_change new answer
  pub over_lost : IfSome read.lost (λ lost. written.place ≡ lost)

-- That write was tried and failed, and the fault names the device.
pub record HasNotWritten (program : List ℕ) (input : Option (List ℕ)) (source : ImageSource) (change : Change)
    (err err' : Sink) (old new : Told) (told : WordForm) : Type 0 where
  pub tried : HasSet program input source change err err' old new (Err Failed)
  pub path : IsPathOf told tried.written.place.device

-- The images were found, and the change of them is refused for this. Nothing is said of their places.
pub record IsRefusedChange (program : List ℕ) (input : Option (List ℕ)) (source : ImageSource) (change : Change)
    (err err' : Sink) (old : Told) (fault : Fault) : Type 0 where
  pub found : List Copy
  pub after_images : Told
  pub read : HasFound program source err err' old after_images found
  pub refused : IsChangeFault input source.order change found old.stored fault

-- why nothing may be written: memory ran out; or the images are refused, or their change
abbrev pub IsSetFault : (program : List ℕ) → (input : Option (List ℕ)) → ImageSource → Change → (err err' : Sink) →
    Told → Told → Fault → Type 0
IsSetFault program input source change err err' old new faults.Memory = Unit {0}
IsSetFault program input source change err err' old new fault =
    (IsUnfound source.one_copy (origin_shown source.origin) old new fault × (err' ≡ err))
    ⊎ IsRefusedChange program input source change err err' old fault

-- the change was written; or its write failed; or it was refused, and files were only read
abbrev pub Sets : (program : List ℕ) → (input : Option (List ℕ)) → ImageSource → Change → (err err' : Sink) → Told →
    Told → Result (Unit {0}) Fault → Type 0
Sets program input source change err err' old new (Ok done) =
    HasSet program input source change err err' old new (Ok done)
Sets program input source change err err' old new (Err (CannotWrite told)) =
    HasNotWritten program input source change err err' old new told
Sets program input source change err err' old new (Err fault) =
    OnlyReads old new × IsSetFault program input source change err err' old new fault
