-- What is read before an image is printed or changed, from files whose contents are known. The order of work is ours.
-- The configuration is fw_env.config (U-Boot, tools/env README).
use Rattle.std.specs.Prelude.{◌≡◌, ◌<◌, ◌≤◌, ◌+◌, ◌-◌, IfSome, IsSomeAnd, ℕ, Bool, true, List, [], ◌∷◌, ◌++◌, take, drop, length, nat_le, count_by, Option, Some, None, Result, Ok, Err, Vec, if◌then◌else◌, option_and_then}
use Rattle.std.specs.List.{slice_get}
use Rattle.std.specs.Option.{option_map_or}
use Rattle.std.specs.declared.alloc.Global.{Global}
use Rattle.envimage.specs.Config.{PlaceShown}
use Rattle.envimage.specs.Place.{place_shown}
use Rattle.envimage.specs.declared.config.Place.{Place}
use Rattle.tool_files.specs.CallOrder.{OnlyReads}
use Rattle.tool_files.specs.Told.{Stored, Told, file_at, read_limit}
use Rattle.tool_images.specs.FileFaults.{IsPathOf}
use Rattle.tool_images.specs.declared.fault.Fault.{Fault}
use Rattle.tool_images.specs.declared.fault.Fault.TheVariants.{CannotRead, CannotReadInput, FileShort, FileTooLong, InputCutOff, InputTooLong, Memory}
use Rattle.tool_files.specs.declared.files.Action.{Action}
use Rattle.tool_files.specs.declared.files.Action.TheVariants.{ReadAll, ReadAt}
use Rattle.tool_steps.specs.declared.read.StoredCopy.{StoredCopy}
use Rattle.text.specs.Lines.{is_newline}

-- the bytes at a place, if its file has that many
abbrev pub bytes_at : PlaceShown → Stored → Option (List ℕ)
bytes_at place stored = option_and_then (λ all.
    if nat_le (place.offset + place.size) (length all)
    then Some (take place.size (drop place.offset all)) else None)
    (file_at place.device stored)

-- the call that reads a place
abbrev pub read_of : PlaceShown → List ℕ × Action
read_of place = (place.device, ReadAt place.offset place.size)

-- One read found this, and changed no file.
pub record Reads (call : List ℕ × Action) (there : Option (List ℕ)) (old new : Told) (bytes : List ℕ) : Type 0 where
  pub found : there ≡ Some bytes
  pub calls : new.calls ≡ old.calls ++ call ∷ []
  pub stored : new.stored ≡ old.stored

-- why a whole file may be refused, from what it holds; the fault names its path
abbrev pub IsTextFault : (path : List ℕ) → Option (List ℕ) → Fault → Type 0
IsTextFault path file (CannotRead told) = IsPathOf told path
IsTextFault path file (FileTooLong told) = IsPathOf told path × IsSomeAnd file (λ all. read_limit < length all)
IsTextFault path file Memory = Unit {0}
IsTextFault path file _ = ⊥

-- the file of a place ends before the place does
abbrev pub IsShort : Stored → PlaceShown → Type 0
IsShort stored place = IsSomeAnd (file_at place.device stored) (λ all. length all < place.offset + place.size)

-- why a copy may be refused; the fault names its device
abbrev pub IsCopyFault : Stored → PlaceShown → Fault → Type 0
IsCopyFault stored place (CannotRead told) = IsPathOf told place.device
IsCopyFault stored place (FileShort told) = IsPathOf told place.device × IsShort stored place
IsCopyFault stored place Memory = Unit {0}
IsCopyFault stored place _ = ⊥

-- a whole file was read, or refused
abbrev pub ReadsText : List ℕ → Told → Told → Result (Vec ℕ Global) Fault → Type 0
ReadsText path old new (Ok text) = Reads (path, ReadAll) (file_at path old.stored) old new text.items
ReadsText path old new (Err fault) = OnlyReads old new × IsTextFault path (file_at path old.stored) fault

-- the last byte ends a line, or there is none
abbrev pub is_ended : List ℕ → Bool
is_ended text = option_map_or is_newline (slice_get text (length text - 1)) true

-- the number of the line that ends without its newline, if there is one: the last line, counted from 1
abbrev pub cut_off_line : List ℕ → Option ℕ
cut_off_line text = if is_ended text then None else Some (count_by is_newline text + 1)

-- the text is the whole input, if the input's bytes are known; no line of it is cut off
abbrev pub IsInput : Option (List ℕ) → List ℕ → Type 0
IsInput input text = IfSome input (λ all. text ≡ all) × (cut_off_line text ≡ None)

-- the input is not too long, and its last line, which has this number, is cut off
abbrev pub IsCutOff : ℕ → List ℕ → Type 0
IsCutOff line all = (length all ≤ read_limit) × (cut_off_line all ≡ Some line)

-- why an input may be refused as a text: it fails; it is too long or cut off, if its bytes are known; or memory runs
-- out
abbrev pub IsInputFault : Option (List ℕ) → Fault → Type 0
IsInputFault input CannotReadInput = Unit {0}
IsInputFault input InputTooLong = IfSome input (λ all. read_limit < length all)
IsInputFault input (InputCutOff line) = IfSome input (IsCutOff line)
IsInputFault input Memory = Unit {0}
IsInputFault input _ = ⊥

-- the whole input was read, or refused
abbrev pub ReadsInput : Option (List ℕ) → Result (Vec ℕ Global) Fault → Type 0
ReadsInput input (Ok text) = IsInput input text.items
ReadsInput input (Err fault) = IsInputFault input fault

-- a copy was read, or refused
abbrev pub ReadsCopy : Place → Told → Told → Result StoredCopy Fault → Type 0
ReadsCopy place old new (Ok copy) =
    Reads (read_of (place_shown place)) (bytes_at (place_shown place) old.stored) old new copy.bytes.items
ReadsCopy place old new (Err fault) = OnlyReads old new × IsCopyFault old.stored (place_shown place) fault
