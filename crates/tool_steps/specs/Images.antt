-- The images that a configuration names, read from files whose contents are known. The configuration is fw_env.config
-- (U-Boot, tools/env README). The order of the reads is ours.
use Rattle.std.specs.Prelude.{◌≡◌, ◌<◌, ◌⊎◌, IsSomeAnd, length, ℕ, List, [], ◌∷◌, ◌++◌, map, Option, Some, None, Result, Ok, Err}
use Rattle.envimage.specs.Config.{PlaceShown, places}
use Rattle.envimage.specs.Place.{place_shown, AnswersPlaces}
use Rattle.envimage.specs.declared.config.ConfigError.{ConfigError}
use Rattle.envimage.specs.declared.config.Place.{Place}
use Rattle.tool_files.specs.CallOrder.{OnlyReads}
use Rattle.tool_files.specs.Told.{Stored, Told, file_at, read_limit}
use Rattle.tool_images.specs.FileFaults.{IsPathOf}
use Rattle.tool_images.specs.declared.fault.Fault.{Fault}
use Rattle.tool_images.specs.declared.fault.Fault.TheVariants.{CannotRead, Config, FileShort, FileTooLong, Memory}
use Rattle.tool_files.specs.declared.files.Action.TheVariants.{ReadAll}
use Rattle.tool_steps.specs.ReadingFiles.{IsShort, IsTextFault, ReadsCopy, bytes_at, read_of}
use Rattle.tool_steps.specs.declared.images.Images.{Images}
use Rattle.tool_steps.specs.declared.read.StoredCopy.{StoredCopy}

-- the second place, if there is one
abbrev pub second_place : Option Place → List PlaceShown
second_place None = []
second_place (Some place) = place_shown place ∷ []

-- the places that a text names, or its refusal
abbrev pub Names : Result (List PlaceShown) ConfigError → Result (Place × Option Place) Fault → Type 0
Names answer (Ok named) = answer ≡ Ok (place_shown named.0 ∷ second_place named.1)
Names answer (Err (Config error)) = AnswersPlaces answer (Err error)
Names answer (Err _) = ⊥

-- the copy at the second place was read, if there is one, or refused
abbrev pub ReadsSecond : Option Place → Told → Told → Result (Option StoredCopy) Fault → Type 0
ReadsSecond None old new (Ok None) = new ≡ old
ReadsSecond (Some place) old new (Ok (Some copy)) = (copy.place ≡ place) × ReadsCopy place old new (Ok copy)
ReadsSecond (Some place) old new (Err fault) = ReadsCopy place old new (Err fault)
ReadsSecond place old new _ = ⊥

-- a copy: its place, and its bytes
abbrev pub Copy : Type 0
Copy = PlaceShown × List ℕ

abbrev pub copy_of : StoredCopy → Copy
copy_of copy = (place_shown copy.place, copy.bytes.items)

-- the copies, the first before the second
abbrev pub copies : Images → List Copy
copies images = by images.second
  where
    by : Option StoredCopy → List Copy
    by None = copy_of images.first ∷ []
    by (Some second) = copy_of images.first ∷ copy_of second ∷ []

-- The configuration was read and names the places of these copies. Then each copy was read, the first one first.
pub record HasRead (config : List ℕ) (old new : Told) (found : List Copy) : Type 0 where
  pub text : List ℕ
  pub there : file_at config old.stored ≡ Some text
  pub named : places text ≡ Ok (map (λ c. c.0) found)
  pub bytes : map (λ c. bytes_at c.0 old.stored) found ≡ map (λ c. Some c.1) found
  pub calls : new.calls ≡ old.calls ++ (config, ReadAll) ∷ map (λ c. read_of c.0) found
  pub stored : new.stored ≡ old.stored

-- The configuration was read, and names these places.
pub record NamesPlaces (config : List ℕ) (old new : Told) (named : List PlaceShown) : Type 0 where
  pub text : List ℕ
  pub there : file_at config old.stored ≡ Some text
  pub names : places text ≡ Ok named
  pub calls : new.calls ≡ old.calls ++ (config, ReadAll) ∷ []
  pub stored : new.stored ≡ old.stored

-- this holds of one of the places
abbrev pub OfSome : (PlaceShown → Type 0) → List PlaceShown → Type 0
OfSome IsSo [] = ⊥
OfSome IsSo (place ∷ more) = IsSo place ⊎ OfSome IsSo more

-- The configuration's text is there, and says this.
pub record FromConfig (config : List ℕ) (stored : Stored) (Says : Result (List PlaceShown) ConfigError →
    Type 0) : Type 0 where
  pub text : List ℕ
  pub there : file_at config stored ≡ Some text
  pub says : Says (places text)

-- why a configuration names no places: its file fails or is too long, or memory runs out; or it is refused. The fault
-- names the file.
abbrev pub IsConfigFault : List ℕ → Stored → Fault → Type 0
IsConfigFault config stored (Config error) = FromConfig config stored (λ answer. AnswersPlaces answer (Err error))
IsConfigFault config stored fault = IsTextFault config (file_at config stored) fault

-- the places that a configuration names were read, or refused
abbrev pub ReadsPlaces : List ℕ → Told → Told → Result (Place × Option Place) Fault → Type 0
ReadsPlaces config old new (Ok named) = NamesPlaces config old new (place_shown named.0 ∷ second_place named.1)
ReadsPlaces config old new (Err fault) = OnlyReads old new × IsConfigFault config old.stored fault

-- the configuration names a place with this property
abbrev pub NamesOne : (config : List ℕ) → Stored → (PlaceShown → Type 0) → Type 0
NamesOne config stored IsSo =
    FromConfig config stored (λ answer. (named : List PlaceShown) × (answer ≡ Ok named) × OfSome IsSo named)

-- why images may be refused: a file fails, or memory runs out; the configuration is too long or refused; or the file of
-- a place is too short. The fault names the file.
abbrev pub IsImagesFault : List ℕ → Stored → Fault → Type 0
IsImagesFault config stored (CannotRead told) =
    IsPathOf told config ⊎ NamesOne config stored (λ place. IsPathOf told place.device)
IsImagesFault config stored Memory = Unit {0}
IsImagesFault config stored (FileTooLong told) =
    IsPathOf told config × IsSomeAnd (file_at config stored) (λ all. read_limit < length all)
IsImagesFault config stored (Config error) = FromConfig config stored (λ answer. AnswersPlaces answer (Err error))
IsImagesFault config stored (FileShort told) =
    NamesOne config stored (λ place. IsPathOf told place.device × IsShort stored place)
IsImagesFault config stored _ = ⊥

-- the images were read, or refused, and files were only read
abbrev pub ReadsImages : List ℕ → Told → Told → Result Images Fault → Type 0
ReadsImages config old new (Ok images) = HasRead config old new (copies images)
ReadsImages config old new (Err fault) = OnlyReads old new × IsImagesFault config old.stored fault
