-- How a fault of a call on files is reported. The texts are ours.
use Rattle.std.specs.Prelude.{◌≡◌, ℕ, List, String, string_bytes}
use Rattle.std.specs.declared.alloc.Global.{Global}
use Rattle.tool_images.specs.declared.fault.Fault.{Fault}
use Rattle.tool_images.specs.declared.fault.Fault.TheVariants as told
use Rattle.tool_files.specs.declared.files.FileFault.{FileFault}
use Rattle.tool_files.specs.declared.files.FileFault.TheVariants.{Failed, Short, TooLong, Memory}
use Rattle.tool_images.specs.declared.word_form.WordForm.{WordForm}

-- a path as it is printed
abbrev pub path_form : String Global → WordForm
path_form path = record { 0 = path }

-- this path is the one that is printed
abbrev pub IsPathOf : WordForm → List ℕ → Type 0
IsPathOf form path = string_bytes form.0 ≡ path

-- for a read of the file at the path
abbrev pub read_fault : WordForm → FileFault → Fault
read_fault path Failed = told.CannotRead path
read_fault path Short = told.FileShort path
read_fault path TooLong = told.FileTooLong path
read_fault path Memory = told.Memory

-- for a write
abbrev pub written_fault : WordForm → FileFault → Fault
written_fault path Failed = told.CannotWrite path
written_fault path Short = told.FileShort path
written_fault path TooLong = told.FileTooLong path
written_fault path Memory = told.Memory
