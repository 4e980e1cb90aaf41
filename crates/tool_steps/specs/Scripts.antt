-- The script of a file, which runs, or is checked, in place of a variable's text. The order of work is ours.
use Rattle.std.specs.Prelude.{◌≡◌, IsSomeAnd, ℕ, List, length, Option, Some, None, Result, Ok, Err, Vec}
use Rattle.std.specs.declared.alloc.Global.{Global}
use Rattle.script_file.specs.ScriptFiles.{script_in}
use Rattle.tool_files.specs.CallOrder.{OnlyReads}
use Rattle.tool_files.specs.Told.{Stored, Told, file_at}
use Rattle.tool_files.specs.declared.files.Action.TheVariants.{ReadAll}
use Rattle.tool_images.specs.FileFaults.{IsPathOf}
use Rattle.tool_images.specs.declared.fault.Fault.{Fault}
use Rattle.tool_images.specs.declared.fault.Fault.TheVariants.{Memory, NoScript}
use Rattle.tool_steps.specs.declared.script.SizedScript.{SizedScript}
use Rattle.tool_steps.specs.ReadingFiles.{IsTextFault, Reads}

-- the script of a file's bytes, or why there is none; the fault names the file
abbrev pub MakesScript : (path bytes : List ℕ) → Result (Vec ℕ Global) Fault → Type 0
MakesScript path bytes (Ok script) = script_in bytes ≡ Ok script.items
MakesScript path bytes (Err (NoScript told why)) = IsPathOf told path × (script_in bytes ≡ Err why)
MakesScript path bytes (Err Memory) = Unit {0}
MakesScript path bytes (Err _) = ⊥

-- The file was read, and this is its script.
pub record HasReadScript (path : List ℕ) (old new : Told) (script : List ℕ) : Type 0 where
  pub bytes : List ℕ
  pub read : Reads (path, ReadAll) (file_at path old.stored) old new bytes
  pub holds : script_in bytes ≡ Ok script

-- why a script may be refused, from what its file holds: the file fails or is too long, or memory runs out; or it has no
-- script. The fault names the file.
abbrev pub IsScriptFault : (path : List ℕ) → Option (List ℕ) → Fault → Type 0
IsScriptFault path file (NoScript told why) = IsPathOf told path × IsSomeAnd file (λ all. script_in all ≡ Err why)
IsScriptFault path file fault = IsTextFault path file fault

-- the script was read, or refused, and files were only read
abbrev pub ReadsScript : List ℕ → Told → Told → Result (Vec ℕ Global) Fault → Type 0
ReadsScript path old new (Ok script) = HasReadScript path old new script.items
ReadsScript path old new (Err fault) = OnlyReads old new × IsScriptFault path (file_at path old.stored) fault

-- ---- a script with the size of its file

abbrev pub sized_of : Result (Vec ℕ Global) Fault → (size : ℕ) → Result SizedScript Fault
sized_of (Ok script) size = Ok (record { text = script; size = size })
sized_of (Err fault) size = Err fault

-- The file was read: this is its script, and the file has this size.
pub record HasReadSized (path : List ℕ) (old new : Told) (script : List ℕ) (size : ℕ) : Type 0 where
  pub bytes : List ℕ
  pub read : Reads (path, ReadAll) (file_at path old.stored) old new bytes
  pub holds : script_in bytes ≡ Ok script
  pub sized : size ≡ length bytes

-- the script was read, or refused, and files were only read
abbrev pub ReadsSized : List ℕ → Told → Told → Result SizedScript Fault → Type 0
ReadsSized path old new (Ok script) = HasReadSized path old new script.text.items script.size
ReadsSized path old new (Err fault) = OnlyReads old new × IsScriptFault path (file_at path old.stored) fault

-- ---- a script that may be named

-- the script was read, if one is named
abbrev pub HasReadNamed : Option (List ℕ) → Told → Told → Option (List ℕ) → Type 0
HasReadNamed None old new None = new ≡ old
HasReadNamed (Some path) old new (Some script) = HasReadScript path old new script
HasReadNamed path old new _ = ⊥

-- why it may be refused
abbrev pub IsNamedFault : Option (List ℕ) → Stored → Fault → Type 0
IsNamedFault None stored fault = ⊥
IsNamedFault (Some path) stored fault = IsScriptFault path (file_at path stored) fault

-- the script was read, if one is named, or refused
abbrev pub ReadsNamed : Option (List ℕ) → Told → Told → Result (Option (Vec ℕ Global)) Fault → Type 0
ReadsNamed path old new (Ok None) = HasReadNamed path old new None
ReadsNamed path old new (Ok (Some script)) = HasReadNamed path old new (Some script.items)
ReadsNamed path old new (Err fault) = OnlyReads old new × IsNamedFault path old.stored fault
