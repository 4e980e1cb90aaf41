-- The order of work: reads first, then at most one write, or at most one file that is made. It is ours.
use Rattle.std.specs.Prelude.{◌≡◌, ℕ, Bool, true, false, List, [], ◌∷◌, ◌++◌}
use Rattle.std.specs.List.{list_all}
use Rattle.tool_files.specs.Told.{Told}
use Rattle.tool_files.specs.declared.files.Action.{Action}
use Rattle.tool_files.specs.declared.files.Action.TheVariants.{Create, ReadAll, ReadAt, WriteAt}

-- the action changes no file
abbrev pub is_read : Action → Bool
is_read ReadAll = true
is_read (ReadAt offset size) = true
is_read (WriteAt offset size) = false
is_read (Create size) = false

-- each of the calls is a read
abbrev pub are_reads : List (List ℕ × Action) → Bool
are_reads calls = list_all (λ c. is_read c.1) calls

-- files were read, and none was written or made
pub record OnlyReads (old new : Told) : Type 0 where
  pub reads : List (List ℕ × Action)
  pub calls : new.calls ≡ old.calls ++ reads
  pub all : are_reads reads ≡ true
  pub stored : new.stored ≡ old.stored

-- files were read, and then one write was made, the last call
pub record WritesLast (path : List ℕ) (offset size : ℕ) (old new : Told) : Type 0 where
  pub reads : List (List ℕ × Action)
  pub calls : new.calls ≡ old.calls ++ (reads ++ (path, WriteAt offset size) ∷ [])
  pub all : are_reads reads ≡ true

-- files were read, and then one was made, or found there, by the last call
pub record CreatesLast (path : List ℕ) (size : ℕ) (old new : Told) : Type 0 where
  pub reads : List (List ℕ × Action)
  pub calls : new.calls ≡ old.calls ++ (reads ++ (path, Create size) ∷ [])
  pub all : are_reads reads ≡ true
