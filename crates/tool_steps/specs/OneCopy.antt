-- The images that a source names, where one copy of a pair may be enough. A copy that is lost counts as having the bytes
-- of the other one: so the other one is current, and a change is written to the place of the lost one. All of it is ours.
use Rattle.std.specs.Prelude.{◌≡◌, ◌⊎◌, ℕ, Bool, true, false, List, [], ◌∷◌, ◌++◌, Option, Some, None, Result, Ok, Err, is_some}
use Rattle.output.specs.Sink.{Sink}
use Rattle.envimage.specs.Config.{PlaceShown}
use Rattle.envimage.specs.Place.{place_shown}
use Rattle.envimage.specs.declared.config.Place.{Place}
use Rattle.tool_files.specs.CallOrder.{OnlyReads}
use Rattle.tool_files.specs.Told.{Stored, Told}
use Rattle.tool_images.specs.FaultLines.{TellsLine}
use Rattle.tool_images.specs.declared.fault.Fault.{Fault}
use Rattle.tool_images.specs.declared.fault.Fault.TheVariants.{Memory}
use Rattle.tool_steps.specs.Faults.{CountsTold, IsReadFault}
use Rattle.tool_steps.specs.Images.{Copy, FromConfig, IsConfigFault, NamesPlaces, copies, copy_of}
use Rattle.tool_steps.specs.Notes.{TellsIf}
use Rattle.tool_steps.specs.Origins.{HasReadImages, IsOriginFault}
use Rattle.tool_steps.specs.ReadingFiles.{IsCopyFault, ReadsCopy, bytes_at, read_of}
use Rattle.tool_steps.specs.declared.images.Images.{Images}
use Rattle.tool_steps.specs.declared.one_copy.ImageSource.{ImageSource}
use Rattle.tool_steps.specs.declared.read.SoughtCopy.{SoughtCopy}
use Rattle.tool_steps.specs.declared.read.SoughtCopy.TheVariants.{Lost, Read}
use Rattle.tool_words.specs.Asked.{OriginShown, configured, no_images, texts, whole}
use Rattle.tool_words.specs.CommandAnswers.{origin_shown}

-- ---- one copy

-- why a copy is lost: it cannot be read, or its file ends before it does; the fault names the device
abbrev pub IsLoss : Stored → PlaceShown → Fault → Type 0
IsLoss stored place Memory = ⊥
IsLoss stored place fault = IsCopyFault stored place fault

-- One read of the place was tried, and changed no file. The copy is lost for this.
pub record LosesCopy (place : PlaceShown) (fault : Fault) (old new : Told) : Type 0 where
  pub why : IsLoss old.stored place fault
  pub calls : new.calls ≡ old.calls ++ read_of place ∷ []
  pub stored : new.stored ≡ old.stored

-- the copy at the place was read, or it is lost; or memory ran out
abbrev pub SeeksCopy : Place → Told → Told → Result SoughtCopy Fault → Type 0
SeeksCopy place old new (Ok (Read copy)) = (copy.place ≡ place) × ReadsCopy place old new (Ok copy)
SeeksCopy place old new (Ok (Lost other fault)) = (other ≡ place) × LosesCopy (place_shown place) fault old new
SeeksCopy place old new (Err fault) = OnlyReads old new

-- the fault is one of reading
abbrev pub IsSoughtFault : Result SoughtCopy Fault → Type 0
IsSoughtFault (Ok (Read copy)) = Unit {0}
IsSoughtFault (Ok (Lost place fault)) = IsReadFault fault
IsSoughtFault (Err fault) = fault ≡ Memory

-- one more failure of the device is counted if the copy cannot be read
abbrev pub CountsSought : ℕ → ℕ → Result SoughtCopy Fault → Type 0
CountsSought old new (Ok (Lost place fault)) = CountsTold {T = Unit {0}} old new (Err fault)
CountsSought old new _ = new ≡ old

-- ---- a pair

-- a copy that was read, and the place of the other one, with the same bytes
abbrev pub in_its_place : Copy → PlaceShown → List Copy
in_its_place copy lost = copy ∷ (lost, copy.1) ∷ []

-- Both copies of a pair were read.
pub record ReadsBoth (first second : PlaceShown) (old new : Told) (found : List Copy) : Type 0 where
  pub bytes : List ℕ
  pub more : List ℕ
  pub there : bytes_at first old.stored ≡ Some bytes
  pub there_too : bytes_at second old.stored ≡ Some more
  pub are : found ≡ (first, bytes) ∷ (second, more) ∷ []
  pub calls : new.calls ≡ old.calls ++ read_of first ∷ read_of second ∷ []
  pub stored : new.stored ≡ old.stored

-- the one place is of the copy that was read, and the other of the lost one
abbrev pub AreReadAndLost : (first second read lost : PlaceShown) → Type 0
AreReadAndLost first second read lost =
    ((first ≡ read) × (second ≡ lost)) ⊎ ((first ≡ lost) × (second ≡ read))

-- Reads of both copies of a pair were tried. One copy was read, and the other is lost.
pub record LosesOne (first second lost : PlaceShown) (old new : Told) (found : List Copy) : Type 0 where
  pub copy : Copy
  pub places : AreReadAndLost first second copy.0 lost
  pub there : bytes_at copy.0 old.stored ≡ Some copy.1
  pub fault : Fault
  pub why : IsLoss old.stored lost fault
  pub are : found ≡ in_its_place copy lost
  pub calls : new.calls ≡ old.calls ++ read_of first ∷ read_of second ∷ []
  pub stored : new.stored ≡ old.stored

-- Reads of both copies were tried, and both are lost. The fault is that of the first.
pub record LosesBoth (first second : PlaceShown) (old new : Told) (fault : Fault) : Type 0 where
  pub why : IsLoss old.stored first fault
  pub other : Fault
  pub why_other : IsLoss old.stored second other
  pub calls : new.calls ≡ old.calls ++ read_of first ∷ read_of second ∷ []

-- one copy, or both, of a pair were read: this place is lost, if one is
abbrev pub ReadsPair : (first second : PlaceShown) → (lost : Option PlaceShown) → Told → Told → List Copy → Type 0
ReadsPair first second None old new found = ReadsBoth first second old new found
ReadsPair first second (Some lost) old new found = LosesOne first second lost old new found

-- that was done, and a lost place is reported in one line; or both are lost, or memory ran out
abbrev pub FindsPair : (program : List ℕ) → (first second : PlaceShown) → (err err' : Sink) → Told → Told →
    Result Images Fault → Type 0
FindsPair program first second err err' old new (Ok images) = (lost : Option PlaceShown)
    × ReadsPair first second lost old new (copies images)
    × TellsIf program (is_some lost) err err'
FindsPair program first second err err' old new (Err fault) =
    OnlyReads old new × ((fault ≡ Memory) ⊎ LosesBoth first second old new fault)

-- the images of two copies that were sought, or why there are none
abbrev pub Joins : (program : List ℕ) → (first second : SoughtCopy) → Sink → Sink → Result Images Fault → Type 0
Joins program (Read first) (Read second) old new (Ok images) =
    (copies images ≡ copy_of first ∷ copy_of second ∷ []) × (new ≡ old)
Joins program (Read copy) (Lost place fault) old new (Ok images) =
    (copies images ≡ in_its_place (copy_of copy) (place_shown place)) × TellsLine program old new
Joins program (Lost place fault) (Read copy) old new (Ok images) =
    (copies images ≡ in_its_place (copy_of copy) (place_shown place)) × TellsLine program old new
Joins program (Lost place fault) (Lost other more) old new (Ok images) = ⊥
Joins program (Lost place fault) (Lost other more) old new (Err refusal) = refusal ≡ fault
Joins program first second old new (Err refusal) = refusal ≡ Memory

-- ---- the images of a source

-- The configuration was read and names a pair. Then one copy of it was read, and this place is lost.
pub record HasLost (config : List ℕ) (lost : PlaceShown) (old new : Told) (found : List Copy) : Type 0 where
  pub first : PlaceShown
  pub second : PlaceShown
  pub after_config : Told
  pub named : NamesPlaces config old after_config (first ∷ second ∷ [])
  pub loses : LosesOne first second lost after_config new found

-- all copies were read; or this place is lost, if one copy is enough and a configuration names it
abbrev pub Finds : (one_copy : Bool) → OriginShown → (lost : Option PlaceShown) → Told → Told → List Copy → Type 0
Finds one_copy origin None old new found = HasReadImages origin old new found
Finds true (configured config) (Some lost) old new found = HasLost config lost old new found
Finds true (whole first second) (Some lost) old new found = ⊥
Finds true (texts path order) (Some lost) old new found = ⊥
Finds true (no_images order) (Some lost) old new found = ⊥
Finds false origin (Some lost) old new found = ⊥

-- The images of a source were found. If one copy of a pair is lost, one line says so.
pub record HasFound (program : List ℕ) (source : ImageSource) (err err' : Sink) (old new : Told) (found : List Copy) :
    Type 0 where
  pub lost : Option PlaceShown
  pub read : Finds source.one_copy (origin_shown source.origin) lost old new found
  pub tells : TellsIf program (is_some lost) err err'

-- the configuration names a single image, and it is refused for this
abbrev pub IsSingleFault : (config : List ℕ) → Stored → Fault → Type 0
IsSingleFault config stored fault = FromConfig config stored (λ answer.
    (place : PlaceShown) × (answer ≡ Ok (place ∷ [])) × IsCopyFault stored place fault)

-- The configuration names a pair, and both copies are lost.
pub record LacksPair (config : List ℕ) (old new : Told) (fault : Fault) : Type 0 where
  pub first : PlaceShown
  pub second : PlaceShown
  pub after_config : Told
  pub named : NamesPlaces config old after_config (first ∷ second ∷ [])
  pub loses : LosesBoth first second after_config new fault

-- why the images of a configuration are not found if one copy of a pair is enough: for a pair only if both are lost
abbrev pub LacksImages : (config : List ℕ) → Told → Told → Fault → Type 0
LacksImages config old new fault = IsConfigFault config old.stored fault
    ⊎ (IsSingleFault config old.stored fault ⊎ LacksPair config old new fault)

-- why the images are not found; of whole files, all are needed, and of a text there is one
abbrev pub IsUnfound : (one_copy : Bool) → OriginShown → Told → Told → Fault → Type 0
IsUnfound true (configured config) old new fault = LacksImages config old new fault
IsUnfound true (whole first second) old new fault = IsOriginFault (whole first second) old.stored fault
IsUnfound true (texts path order) old new fault = IsOriginFault (texts path order) old.stored fault
IsUnfound true (no_images order) old new fault = IsOriginFault (no_images order) old.stored fault
IsUnfound false origin old new fault = IsOriginFault origin old.stored fault

-- the images of a configuration were found, or refused, if one copy of a pair is enough
abbrev pub FindsEither : (program config : List ℕ) → (err err' : Sink) → Told → Told → Result Images Fault → Type 0
FindsEither program config err err' old new (Ok images) = (lost : Option PlaceShown)
    × Finds true (configured config) lost old new (copies images)
    × TellsIf program (is_some lost) err err'
FindsEither program config err err' old new (Err fault) = OnlyReads old new × LacksImages config old new fault

-- the images were found, or refused, and files were only read
abbrev pub FindsImages : (program : List ℕ) → ImageSource → (err err' : Sink) → Told → Told → Result Images Fault →
    Type 0
FindsImages program source err err' old new (Ok images) = HasFound program source err err' old new (copies images)
FindsImages program source err err' old new (Err fault) =
    OnlyReads old new × IsUnfound source.one_copy (origin_shown source.origin) old new fault
