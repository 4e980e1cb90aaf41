-- The images of a call, read by what names them: a configuration; files of which each is one whole copy; or a text, of
-- which an image is made; or nothing, and an image without variables is made. All of it is ours.
use Rattle.std.specs.Prelude.{◌≡◌, ◌≢◌, ◌⊎◌, IsSomeAnd, ℕ, List, [], ◌∷◌, ◌++◌, length, Option, Some, None, Result, Ok, Err}
use Rattle.envimage.specs.Config.{PlaceShown}
use Rattle.envimage.specs.declared.image.ByteOrder.{ByteOrder}
use Rattle.tool_files.specs.CallOrder.{OnlyReads}
use Rattle.tool_files.specs.Told.{Stored, Told, file_at}
use Rattle.tool_files.specs.declared.files.Action.TheVariants.{ReadAll}
use Rattle.tool_images.specs.declared.fault.Fault.{Fault}
use Rattle.tool_images.specs.declared.fault.Fault.TheVariants.{Memory, Text, TextTooLarge, UnequalSizes}
use Rattle.tool_images.specs.PrintingImages.{environment_in}
use Rattle.tool_images.specs.TextImages.{IsTextsFault, StandsFor}
use Rattle.tool_steps.specs.Images.{Copy, HasRead, IsImagesFault, copies, copy_of}
use Rattle.tool_steps.specs.ReadingFiles.{IsTextFault, Reads}
use Rattle.tool_steps.specs.declared.images.Images.{Images}
use Rattle.tool_steps.specs.declared.read.StoredCopy.{StoredCopy}
use Rattle.tool_words.specs.Asked.{OriginShown, configured, no_images, texts, whole}

-- ---- one file

-- a file that is one whole copy: its place starts at the first byte and is as long as the file
abbrev pub whole_place : (path bytes : List ℕ) → PlaceShown
whole_place path bytes = record { device = path; offset = 0; size = length bytes }

abbrev pub whole_copy : (path bytes : List ℕ) → Copy
whole_copy path bytes = (whole_place path bytes, bytes)

-- the file was read as such a copy, or refused
abbrev pub ReadsFile : List ℕ → Told → Told → Result StoredCopy Fault → Type 0
ReadsFile path old new (Ok copy) = (copy_of copy ≡ whole_copy path copy.bytes.items)
    × Reads (path, ReadAll) (file_at path old.stored) old new copy.bytes.items
ReadsFile path old new (Err fault) = OnlyReads old new × IsTextFault path (file_at path old.stored) fault

-- ---- a single image, or a pair

-- The file was read, and is the single image.
pub record HasReadFile (path : List ℕ) (old new : Told) (found : List Copy) : Type 0 where
  pub bytes : List ℕ
  pub there : file_at path old.stored ≡ Some bytes
  pub are : found ≡ whole_copy path bytes ∷ []
  pub calls : new.calls ≡ old.calls ++ (path, ReadAll) ∷ []
  pub stored : new.stored ≡ old.stored

-- Both files were read, the first one first. They are of one size, and are the copies of the pair.
pub record HasReadPair (first second : List ℕ) (old new : Told) (found : List Copy) : Type 0 where
  pub bytes : List ℕ
  pub more : List ℕ
  pub there : file_at first old.stored ≡ Some bytes
  pub there_too : file_at second old.stored ≡ Some more
  pub equal : length bytes ≡ length more
  pub are : found ≡ whole_copy first bytes ∷ whole_copy second more ∷ []
  pub calls : new.calls ≡ old.calls ++ (first, ReadAll) ∷ (second, ReadAll) ∷ []
  pub stored : new.stored ≡ old.stored

-- the files were read
abbrev pub HasReadFiles : List ℕ → Option (List ℕ) → Told → Told → List Copy → Type 0
HasReadFiles first None old new found = HasReadFile first old new found
HasReadFiles first (Some second) old new found = HasReadPair first second old new found

-- Both files are there, and they are not of one size.
pub record AreUnequal (first second : List ℕ) (stored : Stored) : Type 0 where
  pub bytes : List ℕ
  pub more : List ℕ
  pub there : file_at first stored ≡ Some bytes
  pub there_too : file_at second stored ≡ Some more
  pub unequal : length bytes ≢ length more

-- why files may be refused: one of them fails or is too long, or memory runs out; or two are not of one size. The fault
-- names the file.
abbrev pub IsFilesFault : List ℕ → Option (List ℕ) → Stored → Fault → Type 0
IsFilesFault first None stored fault = IsTextFault first (file_at first stored) fault
IsFilesFault first (Some second) stored UnequalSizes = AreUnequal first second stored
IsFilesFault first (Some second) stored fault =
    IsTextFault first (file_at first stored) fault ⊎ IsTextFault second (file_at second stored) fault

-- the files were read, or refused
abbrev pub ReadsFiles : List ℕ → Option (List ℕ) → Told → Told → Result Images Fault → Type 0
ReadsFiles first second old new (Ok images) = HasReadFiles first second old new (copies images)
ReadsFiles first second old new (Err fault) = OnlyReads old new × IsFilesFault first second old.stored fault

-- two copies as a pair, or the refusal of their sizes
abbrev pub PairsUp : (first second : StoredCopy) → Result Images Fault → Type 0
PairsUp first second (Ok images) = (length first.bytes.items ≡ length second.bytes.items)
    × (copies images ≡ copy_of first ∷ copy_of second ∷ [])
PairsUp first second (Err fault) =
    (length first.bytes.items ≢ length second.bytes.items) × (fault ≡ UnequalSizes)

-- ---- a text

-- The file was read, and the image found has the environment of its text.
pub record HasReadTexts (path : List ℕ) (order : ByteOrder) (old new : Told) (found : List Copy) : Type 0 where
  pub text : List ℕ
  pub image : List ℕ
  pub there : file_at path old.stored ≡ Some text
  pub are : found ≡ whole_copy path image ∷ []
  pub stands : StandsFor order text image
  pub calls : new.calls ≡ old.calls ++ (path, ReadAll) ∷ []
  pub stored : new.stored ≡ old.stored

-- why it may be refused: the file fails or is too long, or memory runs out; or no image can be made of its text
abbrev pub IsTextsReadFault : List ℕ → Stored → Fault → Type 0
IsTextsReadFault path stored (Text error) = IsSomeAnd (file_at path stored) (λ text. IsTextsFault text (Text error))
IsTextsReadFault path stored TextTooLarge = IsSomeAnd (file_at path stored) (λ text. IsTextsFault text TextTooLarge)
IsTextsReadFault path stored fault = IsTextFault path (file_at path stored) fault

-- the text was read, or refused
abbrev pub ReadsTexts : List ℕ → ByteOrder → Told → Told → Result Images Fault → Type 0
ReadsTexts path order old new (Ok images) = HasReadTexts path order old new (copies images)
ReadsTexts path order old new (Err fault) = OnlyReads old new × IsTextsReadFault path old.stored fault

-- the image of a text, as the one copy of its file, or why there is none
abbrev pub MakesImages : ByteOrder → (path text : List ℕ) → Result Images Fault → Type 0
MakesImages order path text (Ok images) =
    (image : List ℕ) × (copies images ≡ whole_copy path image ∷ []) × StandsFor order text image
MakesImages order path text (Err fault) = IsTextsFault text fault

-- ---- nothing

-- The image found has no variables, and no file was read. It is the copy of a file whose path is empty.
pub record HasNoImages (order : ByteOrder) (old new : Told) (found : List Copy) : Type 0 where
  pub image : List ℕ
  pub are : found ≡ whole_copy [] image ∷ []
  pub empty : environment_in order image None ≡ Ok []
  pub same : new ≡ old

-- an image without variables, as the one copy of a file whose path is empty, or why there is none: memory ran out
abbrev pub MakesNone : ByteOrder → Result Images Fault → Type 0
MakesNone order (Ok images) =
    (image : List ℕ) × (copies images ≡ whole_copy [] image ∷ []) × (environment_in order image None ≡ Ok [])
MakesNone order (Err fault) = fault ≡ Memory

-- ---- what names the images

-- the images that this names were read
abbrev pub HasReadImages : OriginShown → Told → Told → List Copy → Type 0
HasReadImages (configured config) old new found = HasRead config old new found
HasReadImages (whole first second) old new found = HasReadFiles first second old new found
HasReadImages (texts path order) old new found = HasReadTexts path order old new found
HasReadImages (no_images order) old new found = HasNoImages order old new found

-- why they may be refused
abbrev pub IsOriginFault : OriginShown → Stored → Fault → Type 0
IsOriginFault (configured config) stored fault = IsImagesFault config stored fault
IsOriginFault (whole first second) stored fault = IsFilesFault first second stored fault
IsOriginFault (texts path order) stored fault = IsTextsReadFault path stored fault
IsOriginFault (no_images order) stored fault = fault ≡ Memory

-- the images were read, or refused, and files were only read
abbrev pub ReadsOrigin : OriginShown → Told → Told → Result Images Fault → Type 0
ReadsOrigin origin old new (Ok images) = HasReadImages origin old new (copies images)
ReadsOrigin origin old new (Err fault) = OnlyReads old new × IsOriginFault origin old.stored fault
