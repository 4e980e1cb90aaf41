-- What the program's moves and endings say.
use Rattle.std.specs.Prelude.{◌≡◌, ℕ, ◌+◌, List, ◌∷◌, length, nat_le, nat_lt, Bool, true, false, Option, Some, None, Vec, Result, Ok, Err}
use Rattle.bootstore_state.specs.Moment.{Moment, RunningFrame}
use Rattle.text.specs.TextsShown.{bytes_of_words}
use Rattle.bootstore_state.specs.Record.{Record, without_first, stepped}
use Rattle.std.specs.declared.alloc.Global.{Global}
use Rattle.hushlang.specs.Expansion.{size, most_bytes}
use Rattle.rehearse_terms.specs.Outcomes.{OutcomeWord}
use Rattle.bootstore_state.specs.declared.store.StoreError.{StoreError}
use Rattle.rehearse_terms.specs.State.{Text, Memory, State}
use Rattle.bootstore_state.specs.StoredState.{state_at}
use Rattle.device_list.specs.DeviceList.{Devices}
use Rattle.device_list.specs.CommandsShown.{lent_effect}
use Rattle.rehearse_terms.specs.Bounds.{BoundsShown}
use Rattle.rehearse_rules.specs.Execution.{Limits, Request, remember}
use Rattle.rehearse_machine.specs.Places.{PlaceNext, GoOn, AskOn, StopOn, above_file}
use Rattle.rehearse_rules.specs.EndingsShown.{halt_shown}
use Rattle.rehearse_machine.specs.declared.ask.Ask.{Ask}
use Rattle.rehearse_machine.specs.declared.ask.Step.{Step}
use Rattle.rehearse_machine.specs.declared.ask.Step.TheVariants as steps

abbrev pub request_shown : Ask → Request
request_shown ask =
    record {
      name = ask.name.items;
      words = bytes_of_words ask.words.items;
      effect = lent_effect ask.effect;
      again = ask.again;
      on_success = ask.statuses.success;
      on_failure = ask.statuses.failure;
    }

-- the result of a move that has led to a moment
abbrev pub next_shown : Step → Moment → OutcomeWord → PlaceNext
next_shown steps.Going m w = GoOn m.frames (state_at m w)
next_shown (steps.Asks ask) m w = AskOn (request_shown ask) m.frames (state_at m w)
next_shown (steps.Ends halt) m w = StopOn (halt_shown halt) (state_at m w)

abbrev pub limits_of : Devices → BoundsShown → Limits
limits_of devices bounds = record { devices = devices; device_bound = bounds.devices; step_bound = bounds.steps; shell = bounds.shell; room = bounds.room }

-- a file that a command hands over to, above the frames
abbrev pub file_above : (runs : List Text) → Moment → Moment
file_above runs m = record m { frames = above_file m.status runs m.frames }

-- the frames below the innermost
abbrev pub under : Moment → List RunningFrame
under m = without_first m.frames

-- the innermost frame is f
abbrev pub IsTop : RunningFrame → Moment → Type 0
IsTop f m = m.frames ≡ f ∷ under m

-- what a change of a record by a move keeps: the marks, and the steps that were begun before the run
pub record Keeps (old new : Record) : Type 0 where
  pub marked : new.marked ≡ old.marked
  pub begun : new.begun + old.present.steps ≡ old.begun + new.present.steps

-- a move from old to new that does this to the state
abbrev pub Does : Step → Record → Record → (State → PlaceNext) → Type 0
Does step old new next =
    ((w : OutcomeWord) → next_shown step new.present w ≡ next (state_at old.present w)) × Keeps old new

-- the same, if memory did not run out
abbrev pub Comes : Result Step StoreError → Record → Record → (State → PlaceNext) → Type 0
Comes (Ok step) old new next = Does step old new next
Comes (Err e) old new next = Unit {0}

-- a part of a move, if memory did not run out
abbrev pub Went : Result (Unit {0}) StoreError → Record → Record → (State → PlaceNext) → Type 0
Went (Ok done) old new next = Does steps.Going old new next
Went (Err e) old new next = Unit {0}

-- a move of the innermost frame, f, that does this over the frames below it
abbrev pub Moves : RunningFrame → Result Step StoreError → Record → Record → (List RunningFrame → State → PlaceNext) → Type 0
Moves f result old new does = IsTop f old.present → Comes result old new (does (under old.present))

-- a change of what a script reads and writes
abbrev pub Changes : Record → Record → (Memory → Memory) → Type 0
Changes old new change =
    ((w : OutcomeWord) → state_at new.present w ≡ remember change (state_at old.present w))
    × (new.present.frames ≡ old.present.frames) × Keeps old new

abbrev pub Changed : Result (Unit {0}) StoreError → Record → Record → (Memory → Memory) → Type 0
Changed (Ok done) old new change = Changes old new change
Changed (Err e) old new change = Unit {0}

-- the fields that were found, if they hold no more bytes than allowed
abbrev pub IsExpanded : Bool → List Text → List Text → Type 0
IsExpanded true found fields = (found ≡ fields) × (nat_le (size fields) most_bytes ≡ true)
IsExpanded false found fields = nat_le (size fields) most_bytes ≡ false

abbrev pub IsExpandedOne : Option (Vec ℕ Global) → Text → Type 0
IsExpandedOne (Some found) value = (found.items ≡ value) × (nat_le (length value) most_bytes ≡ true)
IsExpandedOne None value = nat_le (length value) most_bytes ≡ false

-- whether a step was begun below the bound
abbrev pub IsCounted : BoundsShown → Bool → Record → Record → Type 0
IsCounted bounds true old new = (nat_lt old.present.steps bounds.steps ≡ true) × (new ≡ stepped old)
IsCounted bounds false old new = (nat_lt old.present.steps bounds.steps ≡ false) × (new ≡ old)
