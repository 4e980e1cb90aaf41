-- What files in memory hold, and what their calls answer while memory lasts. They are ours, for tests.
use Rattle.std.specs.Prelude.{◌≡◌, ◌+◌, ◌/◌, ◌==◌, ◌&&◌, not, ℕ, Bool, true, false, List, [], ◌∷◌, ◌++◌, length}
use Rattle.std.specs.Prelude.{map, take, drop, Option, Some, None, Result, Ok, Err, Vec}
use Rattle.std.specs.Prelude.{if◌then◌else◌, nat_le, string_bytes}
use Rattle.std.specs.Option.{option_map_or}
use Rattle.std.specs.declared.alloc.Global.{Global}
use Rattle.tool_files.specs.Told.{Stored, Told, file_at, read_limit, written}
use Rattle.tool_files.specs.declared.files.Action.{Action}
use Rattle.tool_files.specs.declared.files.FileFault.{FileFault}
use Rattle.tool_files.specs.declared.files.FileFault.TheVariants.{Failed, Short, TooLong, Memory}
use Rattle.tool_files.specs.declared.memory_files.Call.{Call}
use Rattle.tool_files.specs.declared.memory_files.MemoryFile.{MemoryFile}
use Rattle.tool_files.specs.declared.memory_files.MemoryFiles.{MemoryFiles}

abbrev pub file_of : MemoryFile → List ℕ × List ℕ
file_of f = (string_bytes f.path, f.bytes.items)

abbrev pub call_of : Call → List ℕ × Action
call_of c = (string_bytes c.path, c.action)

-- the contents of the files, and the calls
abbrev pub memory_files_shown : MemoryFiles → Told
memory_files_shown m = record { stored = map file_of m.files.items; calls = map call_of m.calls.items }

-- how many calls are answered before the one that fails, if one does
abbrev pub failing_of : MemoryFiles → Option ℕ
failing_of m = m.failing

-- how often the device has failed
abbrev pub faults_of : MemoryFiles → ℕ
faults_of m = m.faults

-- the lock was taken
abbrev pub is_locked : MemoryFiles → Bool
is_locked m = m.locked

-- one file more
abbrev pub with_file : List ℕ → List ℕ → Told → Told
with_file path bytes told =
    record { stored = told.stored ++ (path, bytes) ∷ []; calls = told.calls }

-- the next call is the one that is to fail
abbrev pub is_due : MemoryFiles → Bool
is_due m = option_map_or (λ n. n == length m.calls.items) m.failing false

-- the file has the `size` bytes from `offset` on
abbrev pub reaches : Option (List ℕ) → ℕ → ℕ → Bool
reaches file offset size =
    option_map_or (λ all. nat_le (offset + size) (length all)) file false

-- the answer to a read of the whole file, from whether the call fails and the file
abbrev pub whole_answer : Bool → Option (List ℕ) → Result (List ℕ) FileFault
whole_answer true file = Err Failed
whole_answer false None = Err Failed
whole_answer false (Some all) =
    if nat_le (length all) read_limit then Ok all else Err TooLong

-- the answer to a read of `size` bytes from `offset` on
abbrev pub part_answer : Bool → Option (List ℕ) → ℕ → ℕ → Result (List ℕ) FileFault
part_answer true file offset size = Err Failed
part_answer false None offset size = Err Failed
part_answer false (Some all) offset size =
    if nat_le (offset + size) (length all) then Ok (take size (drop offset all)) else Err Short

-- the bytes that a write of these leaves: a call that fails leaves the first half
abbrev pub taken : Bool → List ℕ → List ℕ
taken true bytes = take (length bytes / 2) bytes
taken false bytes = bytes

-- the files after the bytes were put over those at the path, if the file has that many bytes
abbrev pub put : List ℕ → ℕ → List ℕ → Stored → Stored
put path offset bytes stored =
    if reaches (file_at path stored) offset (length bytes) then written path offset bytes stored
    else stored

-- the answer to a write of the bytes from `offset` on
abbrev pub write_answer : Bool → Option (List ℕ) → ℕ → List ℕ → Result (Unit {0}) FileFault
write_answer fails file offset bytes =
    if not fails && reaches file offset (length bytes) then Ok tt else Err Failed

-- the answer to a file that is to be made
abbrev pub create_answer : Bool → Option (List ℕ) → Result Bool FileFault
create_answer true file = Err Failed
create_answer false None = Ok true
create_answer false (Some all) = Ok false

-- the answer has these bytes or this fault, or memory ran out
abbrev pub Gives : Result (List ℕ) FileFault → Result (Vec ℕ Global) FileFault → Type 0
Gives wanted (Ok bytes) = wanted ≡ Ok bytes.items
Gives wanted (Err Memory) = Unit {0}
Gives wanted (Err fault) = wanted ≡ Err fault

-- the answer is the one wanted, or memory ran out
abbrev pub IsUnlessMemory : {T : Type 0} → Result T FileFault → Result T FileFault → Type 0
IsUnlessMemory wanted (Err Memory) = Unit {0}
IsUnlessMemory wanted answer = answer ≡ wanted
