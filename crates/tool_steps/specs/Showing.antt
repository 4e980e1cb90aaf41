-- What is shown for a help or a version.
use Rattle.std.specs.Prelude.{◌≡◌, Bool, true, List, ℕ, Option, Result, Ok, Err}
use Rattle.output.specs.Outputs.{Outputs}
use Rattle.output.specs.Sink.{BrokeOff, Sink, Wrote}
use Rattle.tool_files.specs.Told.{Told}
use Rattle.tool_images.specs.declared.error.ToolError.TheVariants.{Write}
use Rattle.tool_images.specs.declared.fault.Fault.{Fault}
use Rattle.tool_images.specs.declared.fault.Fault.TheVariants.{Tool}

-- the text of the help or the version was written, or its output failed inside it
abbrev pub Helps : List ℕ → Sink → Sink → Result Bool Fault → Type 0
Helps text old new (Ok all) = (all ≡ true) × Wrote old new text
Helps text old new (Err (Tool Write)) = BrokeOff old new text
Helps text old new (Err fault) = ⊥

-- this text was written, and nothing else was done
abbrev pub Shows : List ℕ → Option Told → Option Told → Outputs → Result Bool Fault → Type 0
Shows text before after outputs result =
    Helps text outputs.out outputs.out' result
    × ((after ≡ before) × (outputs.err' ≡ outputs.err))
