-- What making a new image does, from files whose contents are known. The order of work is ours.
use Rattle.std.specs.Prelude.{IsSomeAnd, ℕ, Bool, true, false, List, Result, Ok, Err}
use Rattle.tool_files.specs.CallOrder.{OnlyReads}
use Rattle.tool_files.specs.Told.{Creates, Stored, Told, file_at}
use Rattle.tool_files.specs.declared.files.Action.TheVariants.{ReadAll}
use Rattle.tool_files.specs.declared.files.FileFault.{FileFault}
use Rattle.tool_files.specs.declared.files.FileFault.TheVariants.{Failed}
use Rattle.tool_images.specs.FileFaults.{IsPathOf}
use Rattle.tool_images.specs.NewImages.{IsImageOfText, IsNewImage}
use Rattle.tool_images.specs.declared.fault.Fault.{Fault}
use Rattle.tool_images.specs.declared.fault.Fault.TheVariants.{CannotWrite, Exists, Memory, Text, TextTooLarge, Tool}
use Rattle.tool_images.specs.declared.new_image.Layout.{Layout}
use Rattle.tool_steps.specs.Faults.{IsReadFault}
use Rattle.tool_steps.specs.ReadingFiles.{IsTextFault, Reads}

-- the faults of making a file
abbrev pub IsCreateFault : Fault → Type 0
IsCreateFault (Exists path) = Unit {0}
IsCreateFault (CannotWrite path) = Unit {0}
IsCreateFault Memory = Unit {0}
IsCreateFault _ = ⊥

-- the faults of making a new image
abbrev pub IsMakeFault : Fault → Type 0
IsMakeFault (Tool error) = Unit {0}
IsMakeFault (Exists path) = Unit {0}
IsMakeFault (CannotWrite path) = Unit {0}
IsMakeFault fault = IsReadFault fault

-- a file was made; or something was at its path, or the device failed, and the fault names the path; or memory ran out
abbrev pub CreatesFile : (path bytes : List ℕ) → Told → Told → Result (Unit {0}) Fault → Type 0
CreatesFile path bytes old new (Ok done) = Creates path bytes old new (Ok true)
CreatesFile path bytes old new (Err (Exists told)) = IsPathOf told path × Creates path bytes old new (Ok false)
CreatesFile path bytes old new (Err (CannotWrite told)) = IsPathOf told path × Creates path bytes old new (Err Failed)
CreatesFile path bytes old new (Err Memory) = OnlyReads old new
CreatesFile path bytes old new (Err _) = ⊥

-- The text was read, its image was made, and then the call to make the file had this answer.
pub record HasTried (text output : List ℕ) (layout : Layout) (old new : Told) (answer : Result Bool FileFault) : Type 0
  where
    pub lines : List ℕ
    pub image : List ℕ
    pub after_text : Told
    pub read : Reads (text, ReadAll) (file_at text old.stored) old after_text lines
    pub made : IsImageOfText layout lines image
    pub created : Creates output image after_text new answer

-- why no image may be made: the text cannot be read or is too long; or its image is refused, as text and layout say
abbrev pub IsImageFault : (text : List ℕ) → Layout → Stored → Fault → Type 0
IsImageFault text layout stored (Tool error) = IsSomeAnd (file_at text stored) (λ lines. IsNewImage layout lines (Err (Tool error)))
IsImageFault text layout stored (Text error) = IsSomeAnd (file_at text stored) (λ lines. IsNewImage layout lines (Err (Text error)))
IsImageFault text layout stored TextTooLarge = IsSomeAnd (file_at text stored) (λ lines. IsNewImage layout lines (Err TextTooLarge))
IsImageFault text layout stored fault = IsTextFault text (file_at text stored) fault

-- the file was made; or something was at its path, and nothing is changed; or the device failed; or the image was refused,
-- and files were only read
abbrev pub Makes : (text output : List ℕ) → Layout → Told → Told → Result (Unit {0}) Fault → Type 0
Makes text output layout old new (Ok done) = HasTried text output layout old new (Ok true)
Makes text output layout old new (Err (Exists told)) =
    IsPathOf told output × HasTried text output layout old new (Ok false)
Makes text output layout old new (Err (CannotWrite told)) =
    IsPathOf told output × HasTried text output layout old new (Err Failed)
Makes text output layout old new (Err fault) = OnlyReads old new × IsImageFault text layout old.stored fault
