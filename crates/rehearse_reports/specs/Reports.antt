-- What a report of accesses promises. Ours.
use Rattle.std.specs.Prelude.{List, [], ◌∷◌, ◌++◌, length, false, map}
use Rattle.builtins.specs.Builtins.{Test}
use Rattle.bootstore_state.specs.Moment.{Moment, RunningFrame}
use Rattle.bootstore_state.specs.StoredState.{state_at}
use Rattle.rehearse_terms.specs.State.{Text, Memory, State}
use Rattle.rehearse_rules.specs.Execution.{Limits}
use Rattle.rehearse_machine.specs.Places.{frames_of}
use Rattle.rehearse_frames.specs.Above.{above, AboveAll}
use Rattle.rehearse_frames.specs.MoveAccesses.{of_builtin, of_move}
use Rattle.rehearse_reads.specs.Keys.{Access, AreAmong, Covers, Key, Writes, keys_in_front}

-- the new report may replace the old one and these accesses after it: no fewer keys have to be known before it
abbrev pub Reports : (old new accesses : List Access) → Type 0
Reports old new accesses = Covers new (old ++ accesses)

-- the same of the next move of these frames, however many of the lowest are left out, if one stays
abbrev pub ReportsAbove : Limits → List RunningFrame → State → (old new : List Access) → Type 0
ReportsAbove limits frames s old new =
    AboveAll (length frames) (λ below. Reports old new (of_move limits (frames_of (above below frames)) s))

-- and it names no key too many: whatever has to be known later, the same keys have to be known before both
pub record Adds (old new accesses : List Access) : Type 0 where
  pub covers : Covers new (old ++ accesses)
  pub no_more : Covers (old ++ accesses) new

-- the same keys are in both lists
pub record AreAlike (one other : List Key) : Type 0 where
  pub all : AreAmong one other
  pub no_more : AreAmong other one

-- the keys without those that were written
abbrev pub unwritten : (written keys : List Key) → List Key
unwritten written keys = keys_in_front (map Writes written) keys

-- the first of the keys is added to what was found, unless it was written, whatever comes after it
abbrev pub AddsUnwritten : (written found : List Key) → (key : Key) → (more : List Key) → Type 0
AddsUnwritten written found key more = (rest : List Key) → AreAlike (found ++ unwritten written (key ∷ rest)) (more ++ unwritten written rest)

-- the memory of a run at a moment
abbrev pub memory_at : Moment → Memory
memory_at m = (state_at m []).memory

-- a call of `test`
abbrev pub of_test : Limits → (name : Text) → (words : List Text) → State → List Access
of_test limits name words s = of_builtin limits false Test name words [] s
