-- Files whose contents are known, with the calls made on them, and what one call does to both. How files are reached is
-- ours.
use Rattle.std.specs.Prelude.{◌≡◌, ◌⊎◌, ◌+◌, ◌<◌, ◌≤◌, ℕ, Bool, true, false, List, [], ◌∷◌, ◌++◌, length, take, drop}
use Rattle.std.specs.Prelude.{Option, Some, None, Result, Ok, Err, Vec, IsSomeAnd}
use Rattle.std.specs.Option.{option_map_or}
use Rattle.std.specs.Str.{bytes_eq}
use Rattle.std.specs.Map.{lookup, set_value}
use Rattle.std.specs.declared.alloc.Global.{Global}
use Rattle.tool_files.specs.declared.files.Action.{Action}
use Rattle.tool_files.specs.declared.files.Action.TheVariants.{Create, ReadAll, ReadAt, WriteAt}
use Rattle.tool_files.specs.declared.files.FileFault.{FileFault}
use Rattle.tool_files.specs.declared.files.FileFault.TheVariants.{Failed, Short, TooLong, Memory}

-- the bytes of the file at each path
abbrev pub Stored : Type 0
Stored = List (List ℕ × List ℕ)

pub record Told : Type 0 where
  -- what is in the files
  pub stored : Stored
  -- the calls that were answered, in their order: a path, and what was done there
  pub calls : List (List ℕ × Action)

-- if the contents are known before a call, they are known after it, and this holds between the two
abbrev pub IfTold : Option Told → Option Told → (Told → Told → Type 0) → Type 0
IfTold None new P = Unit {0}
IfTold (Some old) None P = ⊥
IfTold (Some old) (Some new) P = P old new

-- the bytes of the file at the path, if there is one
abbrev pub file_at : List ℕ → Stored → Option (List ℕ)
file_at path stored = lookup (bytes_eq path) stored

-- the bytes put over those from `offset` on
abbrev pub overwritten : List ℕ → ℕ → List ℕ → List ℕ
overwritten old offset bytes = take offset old ++ (bytes ++ drop (offset + length bytes) old)

-- the files with the bytes put over those of the file at the path
abbrev pub written : List ℕ → ℕ → List ℕ → Stored → Stored
written path offset bytes stored = option_map_or
    (λ old. set_value (bytes_eq path) stored (overwritten old offset bytes))
    (file_at path stored) stored

-- the calls after one more; a call to which memory was refused does not count
abbrev pub calls_after : {T : Type 0} → List (List ℕ × Action) → List ℕ → Action
    → Result T FileFault → List (List ℕ × Action)
calls_after calls path action (Err Memory) = calls
calls_after calls path action _ = calls ++ (path, action) ∷ []

-- the files with one more, if there is none at its path
abbrev pub made : (path bytes : List ℕ) → Stored → Stored
made path bytes stored = option_map_or (λ _. stored) (file_at path stored) (stored ++ (path, bytes) ∷ [])

-- the most bytes that are read of a whole file: one mebibyte
abbrev pub read_limit : ℕ
read_limit = 1048576

-- the answer to a read of the whole file
abbrev pub IsWhole : Option (List ℕ) → Result (Vec ℕ Global) FileFault → Type 0
IsWhole file (Ok bytes) = file ≡ Some bytes.items
IsWhole file (Err TooLong) = IsSomeAnd file (λ all. read_limit < length all)
IsWhole file (Err Short) = ⊥
IsWhole file (Err _) = Unit {0}

-- the answer to a read of `size` bytes from `offset` on
abbrev pub IsPart : Option (List ℕ) → ℕ → ℕ → Result (Vec ℕ Global) FileFault → Type 0
IsPart file offset size (Ok bytes) = IsSomeAnd file (λ all.
    (offset + size ≤ length all) × (bytes.items ≡ take size (drop offset all)))
IsPart file offset size (Err Short) = IsSomeAnd file (λ all. length all < offset + size)
IsPart file offset size (Err TooLong) = ⊥
IsPart file offset size (Err _) = Unit {0}

-- the files after a write; if the device failed, they may have any prefix of the bytes
abbrev pub IsWritten : List ℕ → ℕ → List ℕ → Stored → Stored
    → Result (Unit {0}) FileFault → Type 0
IsWritten path offset bytes old new (Ok done) = (new ≡ written path offset bytes old)
    × IsSomeAnd (file_at path old) (λ all. offset + length bytes ≤ length all)
IsWritten path offset bytes old new (Err Failed) =
    (n : ℕ) × (new ≡ written path offset (take n bytes) old)
IsWritten path offset bytes old new (Err Memory) = new ≡ old
IsWritten path offset bytes old new (Err _) = ⊥

-- whether a file was made, and the files then; if the device failed, there may be a new file with any prefix of the bytes
abbrev pub IsMade : (path bytes : List ℕ) → Stored → Stored → Result Bool FileFault → Type 0
IsMade path bytes old new (Ok true) = (file_at path old ≡ None) × (new ≡ made path bytes old)
IsMade path bytes old new (Ok false) = IsSomeAnd (file_at path old) (λ _. new ≡ old)
IsMade path bytes old new (Err Failed) =
    (new ≡ old) ⊎ ((n : ℕ) × (new ≡ made path (take n bytes) old))
IsMade path bytes old new (Err Memory) = new ≡ old
IsMade path bytes old new (Err _) = ⊥

pub record ReadsAll (path : List ℕ) (old new : Told) (answer : Result (Vec ℕ Global) FileFault)
    : Type 0 where
  pub whole : IsWhole (file_at path old.stored) answer
  pub calls : new.calls ≡ calls_after old.calls path ReadAll answer
  pub stored : new.stored ≡ old.stored

pub record ReadsAt (path : List ℕ) (offset size : ℕ) (old new : Told)
    (answer : Result (Vec ℕ Global) FileFault) : Type 0 where
  pub part : IsPart (file_at path old.stored) offset size answer
  pub calls : new.calls ≡ calls_after old.calls path (ReadAt offset size) answer
  pub stored : new.stored ≡ old.stored

pub record WritesAt (path : List ℕ) (offset : ℕ) (bytes : List ℕ) (old new : Told)
    (answer : Result (Unit {0}) FileFault) : Type 0 where
  pub calls : new.calls ≡ calls_after old.calls path (WriteAt offset (length bytes)) answer
  pub stored : IsWritten path offset bytes old.stored new.stored answer

pub record Creates (path bytes : List ℕ) (old new : Told) (answer : Result Bool FileFault) : Type 0 where
  pub calls : new.calls ≡ calls_after old.calls path (Create (length bytes)) answer
  pub stored : IsMade path bytes old.stored new.stored answer
