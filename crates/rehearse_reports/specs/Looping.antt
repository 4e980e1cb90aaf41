-- A stretch of a run that comes back to the moment at which it began, but for the count of steps. Ours.
use Rattle.std.specs.Prelude.{◌≡◌, ℕ, ◌*◌, ◌<◌, ◌≤◌, true, false, [], ◌∷◌, List, length}
use Rattle.bootstore_state.specs.Moment.{Moment, RunningFrame}
use Rattle.bootstore_state.specs.Record.{Record, stepped_by}
use Rattle.bootstore_state.specs.StoredState.{state_at}
use Rattle.rehearse_terms.specs.Outcomes.{OutcomeWord}
use Rattle.rehearse_rules.specs.Execution.{Limits}
use Rattle.rehearse_machine.specs.EndedTexts.{GoOnAlike, is_run}
use Rattle.rehearse_machine.specs.Frames.{Next, Go}
use Rattle.rehearse_machine.specs.MovesShown.{next_shown}
use Rattle.rehearse_machine.specs.Places.{next_of, frames_of, place_move}
use Rattle.rehearse_machine.specs.declared.ask.Step.{Step}
use Rattle.rehearse_machine.specs.declared.ask.Step.TheVariants as steps
use Rattle.rehearse_reads.specs.Keys.{Access}
use Rattle.rehearse_frames.specs.Above.{without_lowest, above, AboveAll, StaysAbove}
use Rattle.rehearse_frames.specs.Loops.{after_moves, of_moves, Stretch}
use Rattle.rehearse_reports.specs.Reports.{Reports}

-- where a moment goes on
abbrev pub goes_at : Moment → Next
goes_at m = Go (frames_of m.frames) (state_at m [])

-- moves lead from a moment to a step and another moment, and a report goes on with what they read and write
pub record MovesTo (limits : Limits) (m : Moment) (step : Step) (n : Moment) (old new : List Access) : Type 0 where
  pub count : ℕ
  pub leads : after_moves limits count (goes_at m) ≡ next_of (next_shown step n [])
  pub reported : Reports old new (of_moves limits count (goes_at m))

-- a stretch leads from a moment to another one, and a report goes on with what it reads and writes
pub record LeadsOn (limits : Limits) (m n : Moment) (old new : List Access) : Type 0 where
  pub accesses : List Access
  pub stretch : Stretch limits (frames_of m.frames) (state_at m []) (frames_of n.frames) (state_at n []) accesses
  pub reported : Reports old new accesses

-- the moment is the first one again, but for the count of steps
pub record IsBack (first again : Moment) : Type 0 where
  pub frames : again.frames ≡ first.frames
  pub state : (w : OutcomeWord) → state_at again w ≡ record (state_at first w) { steps = again.steps }

-- whole rounds of this many steps were begun at once, up to the bound at most
pub record BeginsRounds (bound steps : ℕ) (old new : Record) : Type 0 where
  pub rounds : ℕ
  pub begun : new ≡ stepped_by (rounds * steps) old
  pub within : new.present.steps ≤ bound

-- ---- the same without the lowest frames, if there were never fewer frames than this

-- where a device command asks, there are so many frames
abbrev pub HasFrames : (fewest : ℕ) → Step → Moment → Type 0
HasFrames fewest steps.Going m = Unit {0}
HasFrames fewest (steps.Asks ask) m = fewest ≤ length m.frames
HasFrames fewest (steps.Ends halt) m = Unit {0}

-- after a step, so many frames are left
pub record FramesLeft (step : Step) (m : Moment) (left : ℕ) : Type 0 where
  pub stays : (below : ℕ) → below < left → StaysAbove below step m
  pub there : HasFrames left step m

abbrev pub StepsAbove : Limits → (fewest : ℕ) → Moment → Step → Moment → Type 0
StepsAbove limits fewest m step n =
    AboveAll fewest (λ below. (w : OutcomeWord) → next_shown step (without_lowest below n) w ≡ place_move limits (above below m.frames) (state_at m w))

abbrev pub MovesAbove : Limits → (fewest : ℕ) → Moment → Step → Moment → (old new : List Access) → Type 0
MovesAbove limits fewest m step n old new =
    AboveAll fewest (λ below. MovesTo limits (without_lowest below m) step (without_lowest below n) old new)

abbrev pub LeadsAbove : Limits → (fewest : ℕ) → (m n : Moment) → (old new : List Access) → Type 0
LeadsAbove limits fewest m n old new =
    AboveAll fewest (λ below. LeadsOn limits (without_lowest below m) (without_lowest below n) old new)

-- the frames below the innermost `run`
abbrev pub below_run : List RunningFrame → List RunningFrame
below_run [] = []
below_run (f ∷ fs) = elim (is_run f.kind) [ true ↦ fs | false ↦ below_run fs ]

-- the frames of both moments make the same of every answer
abbrev pub GoAlikeAbove : (fewest : ℕ) → (m n : Moment) → Type 0
GoAlikeAbove fewest m n = AboveAll fewest (λ below. GoOnAlike (above below n.frames) (above below m.frames))
