-- The result of moves of a store, in turns. Each turn begins a step or ends.
use Rattle.std.specs.Prelude.{◌≡◌, ℕ, ◌<◌, ◌≤◌, []}
use Rattle.std.specs.FinMap.{entries}
use Rattle.bootstore_state.specs.Moment.{Moment}
use Rattle.bootstore_state.specs.Record.{Record}
use Rattle.rehearse_terms.specs.Outcomes.{OutcomeWord}
use Rattle.bootstore_state.specs.StoredState.{state_at}
use Rattle.rehearse_rules.specs.Execution.{Limits, Normal}
use Rattle.rehearse_machine.specs.declared.ask.Step.{Step}
use Rattle.rehearse_machine.specs.declared.ask.Step.TheVariants as steps
use Rattle.rehearse_machine.specs.Frames.{Next, Go, Ask, Stop}
use Rattle.rehearse_machine.specs.Places.{next_of, frames_of}
use Rattle.rehearse_machine.specs.AskingCommand.{AsksAgain}
use Rattle.rehearse_machine.specs.Came.{Came}
use Rattle.rehearse_machine.specs.Meaning.{continue, comes_to, AreProperFrames, IsProperNext}
use Rattle.rehearse_machine.specs.MoveCounts.{weight}
use Rattle.rehearse_machine.specs.MovesShown.{next_shown, Keeps}

-- the result of a moment of a store, with this word
abbrev pub to_come : Limits → Moment → OutcomeWord → Came
to_come limits m w = continue limits (frames_of m.frames) (Normal (state_at m w))

-- the result of a move that has led to a moment
abbrev pub step_comes : Limits → Step → Moment → OutcomeWord → Came
step_comes limits step m w = comes_to limits w (next_of (next_shown step m w))

-- the frames hold proper scripts
abbrev pub IsSound : Moment → Type 0
IsSound m = AreProperFrames (frames_of m.frames)

abbrev pub IsSoundStep : Step → Moment → Type 0
IsSoundStep step m = IsProperNext (next_of (next_shown step m []))

-- more steps were begun, unless the run is over, and no more than the bound
abbrev pub IsFurtherOn : (bound steps : ℕ) → Next → Type 0
IsFurtherOn bound steps (Go fs t) = (steps < t.steps) × (t.steps ≤ bound)
IsFurtherOn bound steps (Ask r fs t) = (steps < t.steps) × (t.steps ≤ bound)
IsFurtherOn bound steps (Stop ending t) = (steps ≤ t.steps) × (steps ≤ bound → t.steps ≤ bound)

-- no more steps were begun than the bound
abbrev pub IsWithin : (bound : ℕ) → Next → Type 0
IsWithin bound (Go fs t) = t.steps ≤ bound
IsWithin bound (Ask r fs t) = t.steps ≤ bound
IsWithin bound (Stop ending t) = t.steps ≤ bound

-- an upper bound of the moves to the next step
abbrev pub moves_left : Limits → Moment → ℕ
moves_left limits m = weight limits (entries m.environment) (frames_of m.frames)

-- a turn: what is to come stays the same, and a step is begun or the run is over
pub record Turns (limits : Limits) (step : Step) (old new : Record) : Type 0 where
  pub means : (w : OutcomeWord) → step_comes limits step new.present w ≡ to_come limits old.present w
  pub sound : IsSoundStep step new.present
  pub kept : Keeps old new
  pub further : IsFurtherOn limits.step_bound old.present.steps (next_of (next_shown step new.present []))
  pub again : (w : OutcomeWord) → AsksAgain limits (next_shown step new.present w)

-- moves that began no step
pub record Waits (limits : Limits) (old new : Record) : Type 0 where
  pub means : (w : OutcomeWord) → to_come limits new.present w ≡ to_come limits old.present w
  pub sound : IsSound new.present
  pub kept : Keeps old new
  pub steps : new.present.steps ≡ old.present.steps

-- turns until an outcome is asked for, or until the end
pub record Drives (limits : Limits) (step : Step) (old new : Record) : Type 0 where
  pub means : (w : OutcomeWord) → step_comes limits step new.present w ≡ to_come limits old.present w
  pub sound : IsSoundStep step new.present
  pub kept : Keeps old new
  pub stopped : step ≡ steps.Going → ⊥
  pub within : IsWithin limits.step_bound (next_of (next_shown step new.present []))
  pub grows : old.present.steps ≤ new.present.steps
  pub again : (w : OutcomeWord) → AsksAgain limits (next_shown step new.present w)

-- turns on the way
pub record Comes_on (limits : Limits) (old new : Record) : Type 0 where
  pub means : (w : OutcomeWord) → to_come limits new.present w ≡ to_come limits old.present w
  pub sound : IsSound new.present
  pub kept : Keeps old new
  pub within : new.present.steps ≤ limits.step_bound
  pub grows : old.present.steps ≤ new.present.steps
