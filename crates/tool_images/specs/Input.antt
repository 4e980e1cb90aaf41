-- What printing the image of an input says of that input.
use Rattle.std.specs.Prelude.{◌≡◌, ◌⊎◌, List, [], ◌++◌, ℕ, Bool, Option, None, Some, Result, Ok, Err}
use Rattle.std.specs.declared.alloc.Global.{Global}
use Rattle.std.specs.declared.vec.Vec.{Vec}
use Rattle.std.specs.Io.KnownBytes.{Appends}
use Rattle.envimage.specs.Data.{Pair}
use Rattle.output.specs.Outputs.{AreUnchanged, Outputs}
use Rattle.output.specs.Sink.{BrokeOff, Sink, Wrote}
use Rattle.tool_files.specs.declared.input.ReadFault.{ReadFault}
use Rattle.tool_files.specs.declared.input.ReadFault.TheVariants as read
use Rattle.envimage.specs.declared.image.ByteOrder.TheVariants.{Little}
use Rattle.envtools.specs.Printing.{plain, printed_output}
use Rattle.tool_images.specs.FaultLines.{TellsLine}
use Rattle.tool_images.specs.Errors.{tool_fault}
use Rattle.tool_images.specs.PrintingImages.{Prints, PrintsAll, environment_in}
use Rattle.tool_images.specs.declared.error.ToolError.{ToolError}
use Rattle.tool_images.specs.declared.fault.Fault.{Fault}
use Rattle.tool_images.specs.declared.fault.Fault.TheVariants as told

-- If the input's bytes are known, they are a single image whose variables were all printed.
abbrev pub PrintsInput : Option (List ℕ) → Sink → Sink → Type 0
PrintsInput None old new = Unit {0}
PrintsInput (Some image) old new =
    (env : List Pair) × (environment_in Little image None ≡ Ok env) × (Wrote old new (printed_output env [] plain))

-- The output has a prefix of the text.
pub record FrontStands (old new : Sink) (text : List ℕ) : Type 0 where
  pub front : List ℕ
  pub rest : List ℕ
  pub whole : text ≡ front ++ rest
  pub bytes : Appends old.taken new.taken front

-- The output has a prefix of the variables of an image. If the input's bytes are known, it is the input's image.
abbrev pub PrintsFront : Option (List ℕ) → Sink → Sink → Type 0
PrintsFront None old new = (env : List Pair) × FrontStands old new (printed_output env [] plain)
PrintsFront (Some image) old new =
    (env : List Pair) × (environment_in Little image None ≡ Ok env) × (FrontStands old new (printed_output env [] plain))

-- if an input is refused, the output is as it was, or it failed inside the variables
abbrev pub RefusesInput : Option (List ℕ) → Sink → Sink → Type 0
RefusesInput left old new = (new ≡ old) ⊎ PrintsFront left old new

-- What was read is printed, or the image is refused for its own fault. If the read failed, this is the fault, and
-- nothing is written.
abbrev pub PrintsRead : Result (Vec ℕ Global) ReadFault → Outputs → Result (Unit {0}) Fault → Type 0
PrintsRead (Ok image) s (Ok _) = (found : Bool) × PrintsAll (environment_in Little image.items None) [] plain s found
PrintsRead (Ok image) s (Err fault) =
    (error : ToolError) × (fault ≡ tool_fault error) × Prints (environment_in Little image.items None) [] plain s (Err error)
PrintsRead (Err read.Failed) s answer = (answer ≡ Err told.CannotReadInput) × AreUnchanged s
PrintsRead (Err read.Memory) s answer = (answer ≡ Err told.Memory) × AreUnchanged s

-- nothing was written; the output may have failed once
abbrev pub IsQuiet : Sink → Sink → Type 0
IsQuiet old new = Wrote old new [] ⊎ BrokeOff old new []

-- all that was written is the line of a fault, or a prefix of it, since the output failed
abbrev pub TellsOnly : (program : List ℕ) → Sink → Sink → Type 0
TellsOnly program old new = (from : Sink) × IsQuiet old from × TellsLine program from new
