-- The image that is made of a text. How a text is read is mkenvimage's (U-Boot, tools/mkenvimage.c, `main`), but for the last
-- lines of a console (`Dump.antt`). That an image of the same variables is made of it is ours.
use Rattle.std.specs.Prelude.{◌≡◌, ◌<◌, List, [], ℕ, None, Result, Ok, Err, Vec}
use Rattle.std.specs.declared.alloc.Global.{Global}
use Rattle.envimage.specs.Data.{Pair}
use Rattle.envimage.specs.Encoding.{needed}
use Rattle.envimage.specs.Image.{most_size}
use Rattle.envimage.specs.declared.image.ByteOrder.{ByteOrder}
use Rattle.envimage.specs.declared.image.ImageError.{ImageError}
use Rattle.envimage.specs.declared.image.ImageError.TheVariants as image
use Rattle.envtools.specs.FromText.{IsReadFromText}
use Rattle.envtools.specs.declared.text_file.TextError.TheVariants as line
use Rattle.tool_images.specs.Dump.{read_text}
use Rattle.tool_images.specs.PrintingImages.{environment_in}
use Rattle.tool_images.specs.declared.fault.Fault.{Fault}
use Rattle.tool_images.specs.declared.fault.Fault.TheVariants.{Memory, Text, TextTooLarge}

-- this is the environment of the text
abbrev pub HasText : (text : List ℕ) → List Pair → Type 0
HasText text env = IsReadFromText (read_text text) (Ok env)

-- The text and the single image have the same environment.
pub record StandsFor (order : ByteOrder) (text image : List ℕ) : Type 0 where
  pub env : List Pair
  pub of_text : HasText text env
  pub of_image : environment_in order image None ≡ Ok env

-- The environment of the text needs more bytes than an image may have.
pub record IsTooLarge (text : List ℕ) : Type 0 where
  pub env : List Pair
  pub of_text : HasText text env
  pub large : most_size < needed None env

-- why a text has no image: a line is no variable, or there are too many; or memory ran out
abbrev pub IsTextsFault : (text : List ℕ) → Fault → Type 0
IsTextsFault text (Text (line.NoEquals number)) = IsReadFromText (read_text text) (Err (line.NoEquals number))
IsTextsFault text (Text (line.EmptyName number)) = IsReadFromText (read_text text) (Err (line.EmptyName number))
IsTextsFault text TextTooLarge = IsTooLarge text
IsTextsFault text Memory = Unit {0}
IsTextsFault text _ = ⊥

-- an image that means the text, or why there is none
abbrev pub MakesImage : ByteOrder → (text : List ℕ) → Result (Vec ℕ Global) Fault → Type 0
MakesImage order text (Ok image) = StandsFor order text image.items
MakesImage order text (Err fault) = IsTextsFault text fault

-- an image without variables, or why there is none: memory ran out
abbrev pub MakesEmpty : ByteOrder → Result (Vec ℕ Global) Fault → Type 0
MakesEmpty order (Ok image) = environment_in order image.items None ≡ Ok []
MakesEmpty order (Err fault) = fault ≡ Memory

-- the same of an environment
abbrev pub IsUnmade : List Pair → ImageError → Type 0
IsUnmade env image.TooLarge = most_size < needed None env
IsUnmade env image.Memory = Unit {0}
IsUnmade env _ = ⊥
