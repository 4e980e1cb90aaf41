-- Keys that are enough for what is to come: from each state that has the same at them, the same is to come. Ours.
use Rattle.std.specs.Prelude.{◌≡◌, List, [], ◌∷◌, Option, Some, None}
use Rattle.bootstore_state.specs.Moment.{Moment}
use Rattle.bootstore_state.specs.StoredState.{state_at}
use Rattle.rehearse_terms.specs.Outcomes.{Outcome, OutcomeWord}
use Rattle.rehearse_terms.specs.State.{Text, State}
use Rattle.rehearse_rules.specs.Execution.{Limits, Request}
use Rattle.rehearse_machine.specs.AskingCommand.{found_again}
use Rattle.rehearse_machine.specs.Frames.{Next, Go, Ask, Stop}
use Rattle.rehearse_machine.specs.Meaning.{comes_to}
use Rattle.rehearse_machine.specs.MovesShown.{next_shown}
use Rattle.rehearse_machine.specs.declared.ask.Step.{Step}
use Rattle.rehearse_machine.specs.Places.{PlaceNext, GoOn, AskOn, StopOn, next_of, frames_of}
use Rattle.rehearse_reads.specs.Keys.{Key, AgreeOn}
use Rattle.rehearse_frames.specs.AlikeFutures.{CameAlike}

-- the state that a move has led to
abbrev pub state_in : Next → State
state_in (Go fs s) = s
state_in (Ask request fs s) = s
state_in (Stop ending s) = s

-- the same in another state
abbrev pub from_state : State → Next → Next
from_state t (Go fs s) = Go fs t
from_state t (Ask request fs s) = Ask request fs t
from_state t (Stop ending s) = Stop ending t

-- with these outcomes left, the same is to come from each state that agrees on the keys, as far as the bounds allow, with the
-- same values of the variables that are wanted
abbrev pub Decide : Limits → (wanted : List Text) → Next → OutcomeWord → List Key → Type 0
Decide limits wanted next w keys = (t : State) → AgreeOn keys (state_in next) t →
    CameAlike limits (state_in next).steps t.steps (state_in next).log t.log wanted
    (comes_to limits w next) (comes_to limits w (from_state t next))

-- keys are enough after a move, whatever outcomes are left
abbrev pub AreEnough : Limits → (wanted : List Text) → Next → List Key → Type 0
AreEnough limits wanted next keys = (w : OutcomeWord) → Decide limits wanted next w keys

-- where a device command asks, if its outcome is this one
abbrev pub AreEnoughIf : Limits → (wanted : List Text) → Outcome → Next → List Key → Type 0
AreEnoughIf limits wanted outcome next keys = (w : OutcomeWord) → Decide limits wanted next (outcome ∷ w) keys

-- at a moment of the machine, and after a step that has led to one
abbrev pub AreEnoughFrom : Limits → (wanted : List Text) → Moment → List Key → Type 0
AreEnoughFrom limits wanted m keys = AreEnough limits wanted (Go (frames_of m.frames) (state_at m [])) keys

abbrev pub AreEnoughAfter : Limits → (wanted : List Text) → Step → Moment → List Key → Type 0
AreEnoughAfter limits wanted step m keys = AreEnough limits wanted (next_of (next_shown step m [])) keys

-- the device command that asks at a moment
abbrev pub asks_at : Limits → Moment → Next
asks_at limits m = next_of (found_again limits m.frames (state_at m []))

-- at a moment at which a device command asks
abbrev pub AreEnoughAt : Limits → (wanted : List Text) → Moment → List Key → Type 0
AreEnoughAt limits wanted m keys = AreEnough limits wanted (asks_at limits m) keys

-- the device command that asks there, if one does
abbrev pub request_in : PlaceNext → Option Request
request_in (GoOn ps s) = None
request_in (AskOn request ps s) = Some request
request_in (StopOn ending s) = None

abbrev pub request_at : Limits → Moment → Option Request
request_at limits m = request_in (found_again limits m.frames (state_at m []))

-- the same is left to do at both moments, and the same device command asks
pub record AreAtOnePlace (limits : Limits) (m n : Moment) : Type 0 where
  pub frames : frames_of n.frames ≡ frames_of m.frames
  pub asks : request_at limits n ≡ request_at limits m
