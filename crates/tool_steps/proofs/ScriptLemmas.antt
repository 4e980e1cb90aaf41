-- The script of a file that was read.
use Rattle.std.proofs.Common.{◌≡◌, ℕ, refl, sym, subst, List, length, Option, Ok, Err}
use Rattle.std.specs.Prelude.{IsSomeAnd, Result, Vec}
use Rattle.std.specs.declared.alloc.Global.{Global}
use Rattle.script_file.specs.ScriptFiles.{script_in}
use Rattle.tool_files.proofs.OrderLemmas.{OnlyReads-one}
use Rattle.tool_files.specs.Told.{Told}
use Rattle.tool_files.specs.declared.files.Action.TheVariants.{ReadAll}
use Rattle.tool_images.specs.declared.fault.Fault.{Fault}
use Rattle.tool_images.specs.declared.fault.Fault.TheVariants as fault
use Rattle.tool_steps.specs.ReadingFiles.{ReadsText}
use Rattle.tool_steps.specs.Scripts.{MakesScript, ReadsScript, ReadsSized, sized_of}

-- what is made of the bytes that were read is what the file holds
pub script-made : (path : List ℕ) (bytes : Vec ℕ Global) (r : Result (Vec ℕ Global) Fault) → MakesScript path bytes.items r → (old new : Told) → ReadsText path old new (Ok bytes) → ReadsScript path old new r
script-made path bytes (Ok script) made old new read = record { bytes = bytes.items; read = read; holds = made }
script-made path bytes (Err (fault.NoScript told why)) made old new read =
    (OnlyReads-one path ReadAll old new refl read.calls read.stored, (made.0, subst (λ (file : Option (List ℕ)). IsSomeAnd file (λ all. script_in all ≡ Err why)) (sym read.found) made.1))
script-made path bytes (Err fault.Memory) made old new read = (OnlyReads-one path ReadAll old new refl read.calls read.stored, tt)
script-made path bytes (Err (fault.Config error)) made old new read = absurd made
script-made path bytes (Err (fault.Tool error)) made old new read = absurd made
script-made path bytes (Err (fault.Text error)) made old new read = absurd made
script-made path bytes (Err fault.TextTooLarge) made old new read = absurd made
script-made path bytes (Err (fault.Lock error)) made old new read = absurd made
script-made path bytes (Err (fault.CannotRead told)) made old new read = absurd made
script-made path bytes (Err (fault.CannotWrite told)) made old new read = absurd made
script-made path bytes (Err (fault.Exists told)) made old new read = absurd made
script-made path bytes (Err (fault.FileShort told)) made old new read = absurd made
script-made path bytes (Err (fault.FileTooLong told)) made old new read = absurd made
script-made path bytes (Err fault.UnequalSizes) made old new read = absurd made
script-made path bytes (Err fault.CannotReadInput) made old new read = absurd made
script-made path bytes (Err fault.InputTooLong) made old new read = absurd made
script-made path bytes (Err (fault.InputCutOff line)) made old new read = absurd made

-- and with the size of the file
pub sized-made : (path : List ℕ) (bytes : Vec ℕ Global) (r : Result (Vec ℕ Global) Fault) → MakesScript path bytes.items r → (old new : Told) → ReadsText path old new (Ok bytes)
    → ReadsSized path old new (sized_of r (length bytes.items))
sized-made path bytes (Ok script) made old new read = record { bytes = bytes.items; read = read; holds = made; sized = refl }
sized-made path bytes (Err fault) made old new read = script-made path bytes (Err fault) made old new read
