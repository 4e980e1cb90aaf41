-- A new image of a text's environment, as mkenvimage makes it (U-Boot, tools/mkenvimage.c, `main`). That a name which is
-- there twice has one entry, and what is refused, is ours.
use Rattle.std.specs.Prelude.{◌≡◌, ◌<◌, ◌≤◌, ◌-◌, ℕ, Bool, true, false, List, ◌∷◌, ◌++◌, length, replicate, Option, None, Some, Result, Ok, Err, Vec}
use Rattle.std.specs.List.{flat_map}
use Rattle.std.specs.declared.alloc.Global.{Global}
use Rattle.text.specs.Bytes as ascii
use Rattle.envimage.specs.Data.{Pair, entry}
use Rattle.envimage.specs.Encoding.{is_image_size, needed, with_header}
use Rattle.envimage.specs.declared.image.ImageError.{ImageError}
use Rattle.envimage.specs.declared.image.ImageError.TheVariants as image
use Rattle.envtools.specs.FromText.{IsReadFromText}
use Rattle.envtools.specs.declared.text_file.TextError.TheVariants as line
use Rattle.tool_images.specs.Dump.{read_text}
use Rattle.tool_images.specs.PrintingImages.{environment_in}
use Rattle.tool_images.specs.TextImages.{HasText}
use Rattle.tool_images.specs.declared.error.ToolError.TheVariants.{Image}
use Rattle.tool_images.specs.declared.fault.Fault.{Fault}
use Rattle.tool_images.specs.declared.fault.Fault.TheVariants.{Memory, Text, TextTooLarge, Tool}
use Rattle.tool_images.specs.declared.new_image.Layout.{Layout}

-- the flag of a new copy of a pair is 1; a single image has none
abbrev pub flag_of : (redundant : Bool) → Option ℕ
flag_of false = None
flag_of true = Some 1

-- the entries, a NUL, and a filling
abbrev pub data_of : List Pair → (filling fill : ℕ) → List ℕ
data_of pairs filling fill = flat_map entry pairs ++ ascii.nul ∷ replicate filling fill

-- the image of these variables, filled up to its size
abbrev pub image_of : Layout → List Pair → List ℕ
image_of layout pairs = with_header layout.order (flag_of layout.redundant)
    (data_of pairs (layout.size - needed (flag_of layout.redundant) pairs) layout.fill)

-- an image may have this size
abbrev pub is_size_of : Layout → Bool
is_size_of layout = is_image_size (flag_of layout.redundant) layout.size

-- the least size that these variables need
abbrev pub needed_of : Layout → List Pair → ℕ
needed_of layout pairs = needed (flag_of layout.redundant) pairs

-- the image of an environment, or it is too large; or memory ran out
abbrev pub IsImageOf : Layout → List Pair → Result (Vec ℕ Global) ImageError → Type 0
IsImageOf layout env (Ok bytes) = (needed_of layout env ≤ layout.size) × (bytes.items ≡ image_of layout env)
IsImageOf layout env (Err image.TooLarge) = layout.size < needed_of layout env
IsImageOf layout env (Err image.Memory) = Unit {0}
IsImageOf layout env (Err _) = ⊥

-- an image is read alone, and a copy of a pair beside the other one, which may be equal
abbrev pub beside : (redundant : Bool) → List ℕ → Option (List ℕ)
beside false bytes = None
beside true bytes = Some bytes

-- These are the bytes of the text's image. It has the size that was asked for, and is read back with the environment
-- of the text.
pub record IsImageOfText (layout : Layout) (text bytes : List ℕ) : Type 0 where
  pub env : List Pair
  pub of_text : HasText text env
  pub fits : needed_of layout env ≤ layout.size
  pub are : bytes ≡ image_of layout env
  pub size : length bytes ≡ layout.size
  pub back : environment_in layout.order bytes (beside layout.redundant bytes) ≡ Ok env

-- The environment of the text needs more bytes.
pub record NeedsMore (layout : Layout) (text : List ℕ) : Type 0 where
  pub env : List Pair
  pub of_text : HasText text env
  pub large : layout.size < needed_of layout env

-- the image of the text, or the first refusal: no image has this size, a line is no variable, or the environment does
-- not fit; or memory ran out
abbrev pub IsNewImage : Layout → (text : List ℕ) → Result (Vec ℕ Global) Fault → Type 0
IsNewImage layout text (Ok bytes) = (is_size_of layout ≡ true) × IsImageOfText layout text bytes.items
IsNewImage layout text (Err (Tool (Image image.WrongSize))) = is_size_of layout ≡ false
IsNewImage layout text (Err (Text (line.NoEquals number))) =
    (is_size_of layout ≡ true) × IsReadFromText (read_text text) (Err (line.NoEquals number))
IsNewImage layout text (Err (Text (line.EmptyName number))) =
    (is_size_of layout ≡ true) × IsReadFromText (read_text text) (Err (line.EmptyName number))
IsNewImage layout text (Err TextTooLarge) = (is_size_of layout ≡ true) × NeedsMore layout text
IsNewImage layout text (Err Memory) = Unit {0}
IsNewImage layout text (Err _) = ⊥
