-- What printing images does, from files whose contents are known. It follows fw_printenv
-- (U-Boot, tools/env README).
use Rattle.std.specs.Prelude.{◌≡◌, ◌⊎◌, ℕ, Bool, List, [], ◌∷◌, Option, Some, None, Result, Ok, Err}
use Rattle.envimage.specs.Data.{Pair}
use Rattle.envimage.specs.declared.image.ByteOrder.{ByteOrder}
use Rattle.envimage.specs.declared.image.ImageError.{ImageError}
use Rattle.envtools.specs.declared.print_form.PrintForm.{PrintForm}
use Rattle.tool_files.specs.CallOrder.{OnlyReads}
use Rattle.tool_images.specs.PrintingImages.{BreaksInPrinting, PrintsAll, environment_in}
use Rattle.output.specs.Outputs.{AreUnchanged, Outputs}
use Rattle.output.specs.Sink.{Sink}
use Rattle.tool_files.specs.Told.{Told}
use Rattle.tool_images.specs.declared.error.ToolError.TheVariants.{Image, Write}
use Rattle.tool_images.specs.declared.fault.Fault.{Fault}
use Rattle.tool_images.specs.declared.fault.Fault.TheVariants.{Memory, Tool}
use Rattle.tool_steps.specs.Images.{Copy, HasRead}
use Rattle.tool_steps.specs.Notes.{MayTell}
use Rattle.tool_steps.specs.OneCopy.{HasFound, IsUnfound}
use Rattle.tool_steps.specs.declared.one_copy.ImageSource.{ImageSource}
use Rattle.tool_words.specs.CommandAnswers.{origin_shown}

-- the bytes of the first copy, and of the second if there is one
abbrev pub first_bytes : List Copy → List ℕ
first_bytes [] = []
first_bytes (copy ∷ more) = copy.1

abbrev pub second_bytes : List Copy → Option (List ℕ)
second_bytes (copy ∷ second ∷ more) = Some second.1
second_bytes _ = None

-- the environment of these copies, or the refusal of the image that they are
abbrev pub environment : ByteOrder → List Copy → Result (List Pair) ImageError
environment order found = environment_in order (first_bytes found) (second_bytes found)

-- each answer to printing the environment of copies
abbrev pub PrintsCopies : ByteOrder → List Copy → List (List ℕ) → PrintForm → Outputs → Result Bool Fault → Type 0
PrintsCopies order found names form outputs (Ok all) = PrintsAll (environment order found) names form outputs all
PrintsCopies order found names form outputs (Err (Tool (Image error))) =
    (environment order found ≡ Err error) × AreUnchanged outputs
PrintsCopies order found names form outputs (Err (Tool Write)) =
    BreaksInPrinting (environment order found) names form outputs
PrintsCopies order found names form outputs (Err Memory) = AreUnchanged outputs
PrintsCopies order found names form outputs (Err fault) = ⊥

-- Copies were read, and they have this property.
pub record FromImages (config : List ℕ) (old new : Told) (IsSo : List Copy → Type 0) : Type 0 where
  pub found : List Copy
  pub read : HasRead config old new found
  pub so : IsSo found

-- The images of a source were found, and this holds of them and of the outputs from then on.
pub record FromFound (program : List ℕ) (source : ImageSource) (s : Outputs) (old new : Told)
    (IsSo : List Copy → Outputs → Type 0) : Type 0 where
  pub found : List Copy
  pub noted : Sink
  pub read : HasFound program source s.err noted old new found
  pub so : IsSo found (record s { err = noted })

-- the images of a source are refused for this, and nothing is written
abbrev pub IsNotFound : ImageSource → Outputs → Told → Told → Result Bool Fault → Type 0
IsNotFound source outputs old new (Ok all) = ⊥
IsNotFound source outputs old new (Err fault) = OnlyReads old new
    × IsUnfound source.one_copy (origin_shown source.origin) old new fault
    × AreUnchanged outputs

-- the images of the source were found and then printed, or they are refused
abbrev pub PrintsFrom : (program : List ℕ) → ImageSource → List (List ℕ) → PrintForm → Outputs → Told → Told →
    Result Bool Fault → Type 0
PrintsFrom program source names form outputs old new answer =
    FromFound program source outputs old new (λ found s. PrintsCopies source.order found names form s answer)
    ⊎ IsNotFound source outputs old new answer

-- a refusal other than that of an output leaves both as they were; it may only be reported that a copy is lost
abbrev pub LeavesOutputs : (program : List ℕ) → (one_copy : Bool) → Result Bool Fault → Outputs → Type 0
LeavesOutputs program one_copy (Ok all) s = Unit {0}
LeavesOutputs program one_copy (Err (Tool Write)) s = Unit {0}
LeavesOutputs program one_copy (Err fault) s = (s.out' ≡ s.out) × MayTell program one_copy s.err s.err'
