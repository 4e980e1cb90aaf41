-- What the machine promises: where a text stops, and what is still to come there for every rest of the word. Ours.
use Rattle.std.specs.Prelude.{◌≡◌, ◌≤◌, [], ◌∷◌, Option, Some, None}
use Rattle.bootstore_state.specs.Moment.{Moment}
use Rattle.bootstore_state.specs.Record.{Record}
use Rattle.rehearse_terms.specs.Outcomes.{Outcome, OutcomeWord}
use Rattle.bootstore_state.specs.StoredState.{state_at}
use Rattle.rehearse_rules.specs.Execution.{Limits, Request}
pub use Rattle.rehearse_rules.specs.Execution.{outcome_when}
use Rattle.rehearse_machine.specs.Places.{AskOn, next_of}
use Rattle.rehearse_machine.specs.AskingCommand.{found_again}
use Rattle.rehearse_machine.specs.Came.{Came, Over, Wants, settled}
use Rattle.rehearse_machine.specs.Meaning.{comes_to}
use Rattle.rehearse_machine.specs.Turning.{IsSound, IsSoundStep, step_comes, to_come}
use Rattle.rehearse_rules.specs.EndingsShown.{halt_shown}
use Rattle.rehearse_rules.specs.Runs.{Task, run_on}
use Rattle.rehearse_rules.specs.declared.halt.Halt.{Halt}
use Rattle.rehearse_machine.specs.MovesShown.{request_shown}
use Rattle.rehearse_machine.specs.declared.ask.Step.{Step}
use Rattle.rehearse_machine.specs.declared.ask.Step.TheVariants as steps
use Rattle.rehearse_machine.specs.declared.rehearsal.Stop.{Stop}
use Rattle.rehearse_machine.specs.declared.rehearsal.Stop.TheVariants.{Asks, Ends}
use Rattle.rehearse_machine.specs.declared.rehearsal.Stopped.{Stopped}
use Rattle.rehearse_machine.specs.declared.rehearsal.Stopped.TheVariants as stopped

-- the result of a moment at which a device command asks with the outcomes of a word
unfoldable pub asked_at : Limits → Moment → OutcomeWord → Came
asked_at limits m w = comes_to limits w (next_of (found_again limits m.frames (state_at m w)))

-- the frames of the moment lead to the device command that asks
pub record Asking (limits : Limits) (m : Moment) : Type 0 where
  pub request : Request
  pub again : (w : OutcomeWord) → found_again limits m.frames (state_at m w) ≡ AskOn request m.frames (state_at m w)
  pub sound : IsSound m
  pub within : m.steps ≤ limits.step_bound

-- whether a device command asks for an outcome at a moment
unfoldable pub IsAsking : Limits → Moment → Type 0
IsAsking limits m = Asking limits m

-- no device command asks
abbrev pub AsksNone : Step → Type 0
AsksNone steps.Going = Unit {0}
AsksNone (steps.Asks ask) = ⊥
AsksNone (steps.Ends halt) = Unit {0}

-- the device command that asked took this outcome: what is to come is the same, and no step was begun
pub record TakesOutcome (limits : Limits) (outcome : Outcome) (old new : Record) (step : Step) : Type 0 where
  pub comes : (w : OutcomeWord) → asked_at limits old.present (outcome ∷ w) ≡ step_comes limits step new.present w
  pub sound : IsSoundStep step new.present
  pub asks_none : AsksNone step
  pub steps : new.present.steps ≡ old.present.steps
  pub within : new.present.steps ≤ limits.step_bound
  pub marked : new.marked ≡ old.marked
  pub begun : new.begun ≡ old.begun

-- a text that reaches f stopped at this moment: a device command asks, or the run has ended, whatever outcomes are
-- left
abbrev pub Stops : Limits → Stop → (f : OutcomeWord → Came) → Moment → Type 0
Stops limits Asks f m =
    IsAsking limits m × ((w : OutcomeWord) → f w ≡ asked_at limits m w) × (f [] ≡ Wants (state_at m []))
Stops limits (Ends halt) f m = (w : OutcomeWord) → f w ≡ Over (halt_shown halt) (state_at m w)

-- a text was started: it runs from this moment on, or the run has ended there
abbrev pub Starts : Task → (ended : Option Halt) → Moment → Type 0
Starts task None m = IsSound m × ((w : OutcomeWord) → to_come task.limits m w ≡ settled (run_on task w))
Starts task (Some halt) m = (w : OutcomeWord) → settled (run_on task w) ≡ Over (halt_shown halt) (state_at m w)

-- the device command that asks at a moment is this one
unfoldable pub IsAsked : Limits → Request → Moment → Type 0
IsAsked limits request m = (w : OutcomeWord) → found_again limits m.frames (state_at m w) ≡ AskOn request m.frames (state_at m w)

-- where a text has stopped, without the command that asks
abbrev pub stop_of : Stopped → Stop
stop_of (stopped.Asks ask) = Asks
stop_of (stopped.Ends halt) = Ends halt

-- and the command is the one that asks there
abbrev pub HasAsk : Limits → Stopped → Moment → Type 0
HasAsk limits (stopped.Asks ask) m = IsAsked limits (request_shown ask) m
HasAsk limits (stopped.Ends halt) m = Unit {0}
