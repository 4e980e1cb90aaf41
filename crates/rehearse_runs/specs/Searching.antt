-- The search for the next run. Ours.
use Rattle.std.specs.Prelude.{ℕ, ◌≡◌, ◌+◌, ◌≤◌, Bool, true, false, not, Option, None, List, [], ◌∷◌, ◌++◌, length, map, Some}
use Rattle.bootstore_state.specs.Moment.{Moment}
use Rattle.bootstore_state.specs.Record.{Record, with_mark}
use Rattle.rehearse_terms.specs.Bounds.{most_steps}
use Rattle.rehearse_terms.specs.Outcomes.{OutcomeWord, Failure, Run, common_prefix}
use Rattle.bootstore_state.specs.StoredState.{state_at}
use Rattle.rehearse_rules.specs.Choosing.{turned, first_from}
use Rattle.device_list.specs.DeviceList.{Devices, expected}
use Rattle.rehearse_rules.specs.Execution.{Limits, Request}
use Rattle.rehearse_rules.specs.Runs.{Task, run_on, state_of, ending_of, kind, runs, unexpected, is_allowed, rest, asked}
use Rattle.rehearse_rules.specs.EndingsShown.{halt_shown}
use Rattle.rehearse_machine.specs.Expecting.{Expects, call_of}
use Rattle.rehearse_machine.specs.Machine.{IsAsked}
use Rattle.rehearse_machine.specs.MovesShown.{request_shown}
use Rattle.rehearse_machine.specs.StoppedTexts.{StoppedAt}
use Rattle.rehearse_machine.specs.declared.ask.Ask.{Ask}
use Rattle.rehearse_rules.specs.declared.halt.Halt.{Halt}
use Rattle.rehearse_machine.specs.declared.rehearsal.Stop.TheVariants.{Asks}

-- how many answers are unexpected after one more, if so many were before it
abbrev pub counted : ℕ → (expected : Option Bool) → (success : Bool) → ℕ
counted n None success = n
counted n (Some true) true = n
counted n (Some false) false = n
counted n (Some true) false = n + 1
counted n (Some false) true = n + 1

-- so many answers of a word are unexpected, if a bound asks for it
abbrev pub AreUnexpected : (most : Option ℕ) → Task → OutcomeWord → (count : ℕ) → Type 0
AreUnexpected None task w count = Unit {0}
AreUnexpected (Some most) task w count = count ≡ unexpected task w

-- a count, if a bound asks for it
abbrev pub CountsFor : (most : Option ℕ) → (are count : ℕ) → Type 0
CountsFor None are count = count ≡ 0
CountsFor (Some most) are count = count ≡ are

abbrev pub IsCounted : Task → OutcomeWord → (count : ℕ) → Type 0
IsCounted task w count = (count ≤ length w) × AreUnexpected task.failures task w count

-- whether a success is expected of the command that asks at a moment, if a bound asks for it
abbrev pub ExpectsFor : (most : Option ℕ) → Limits → Moment → (answer : Option Bool) → Type 0
ExpectsFor None limits m answer = Unit {0}
ExpectsFor (Some most) limits m answer = Expects limits m answer

-- whether a success is expected of a command that asks, if a bound asks for it
abbrev pub ExpectedFor : (most : Option ℕ) → Devices → Request → (answer : Option Bool) → Type 0
ExpectedFor None devices request answer = Unit {0}
ExpectedFor (Some most) devices request answer = answer ≡ expected devices (call_of request)

-- the marked moments are those at which device commands asked for the successes of a word that may be failures, the last
-- first
abbrev pub AreMarks : Task → OutcomeWord → List Moment → Type 0
AreMarks task w [] = turned (is_allowed task) w ≡ None
AreMarks task w (m ∷ ms) = (p : OutcomeWord) × (turned (is_allowed task) w ≡ Some (p ++ Failure ∷ []))
    × StoppedAt task p Asks m × AreMarks task p ms

-- the commands that were kept
abbrev pub requests : List Ask → List Request
requests asks = map request_shown asks

-- these commands ask at the marked moments, the last first
abbrev pub AreAsked : Limits → List Request → List Moment → Type 0
AreAsked limits [] [] = Unit {0}
AreAsked limits [] (m ∷ ms) = ⊥
AreAsked limits (request ∷ rest) [] = ⊥
AreAsked limits (request ∷ rest) (m ∷ ms) = IsAsked limits request m × AreAsked limits rest ms

-- a command was kept after the others, or nothing changed
abbrev pub KeepsIf : Bool → Request → (old new : List Request) → Type 0
KeepsIf true request old new = new ≡ old ++ request ∷ []
KeepsIf false request old new = new ≡ old

-- the moment was marked, or nothing changed
abbrev pub MarksIf : Bool → (old new : Record) → Type 0
MarksIf true old new = new ≡ with_mark old
MarksIf false old new = new ≡ old

-- the store holds the first run that starts with p
pub record Found (task : Task) (p w : OutcomeWord) (halt : Halt) (old new : Record) : Type 0 where
  pub run : kind task w ≡ Run
  pub moment : state_at new.present [] ≡ state_of (run_on task w)
  pub ending : halt_shown halt ≡ ending_of (run_on task w)
  pub marks : AreMarks task w new.marked
  pub first : first_from (is_allowed task) (kind task) task.limits.device_bound p ≡ w
  pub begun : new.begun + old.present.steps ≡ old.begun + new.present.steps
  pub within : new.present.steps ≤ most_steps
  pub grows : old.present.steps ≤ new.present.steps

-- the store holds the first run
pub record FoundFirst (task : Task) (w : OutcomeWord) (halt : Halt) (old new : Record) : Type 0 where
  pub run : kind task w ≡ Run
  pub moment : state_at new.present [] ≡ state_of (run_on task w)
  pub ending : halt_shown halt ≡ ending_of (run_on task w)
  pub marks : AreMarks task w new.marked
  pub begins : runs task ≡ w ∷ rest task w
  pub begun : new.begun ≡ old.begun + new.present.steps
  pub within : new.present.steps ≤ most_steps

-- the store holds the run that follows the run on u; the steps that both runs share were begun before
pub record FoundBehind (task : Task) (u w : OutcomeWord) (halt : Halt) (old new : Record) : Type 0 where
  pub run : kind task w ≡ Run
  pub moment : state_at new.present [] ≡ state_of (run_on task w)
  pub ending : halt_shown halt ≡ ending_of (run_on task w)
  pub marks : AreMarks task w new.marked
  pub follows : rest task u ≡ w ∷ rest task w
  pub begun : new.begun + asked task (common_prefix u w) ≡ old.begun + new.present.steps
  pub shared : asked task (common_prefix u w) ≤ new.present.steps
  pub within : new.present.steps ≤ most_steps

abbrev pub FoundNext : Task → (u w : OutcomeWord) → Option Halt → (old new : Record) → Type 0
FoundNext task u w None old new = (rest task u ≡ []) × (new ≡ old)
FoundNext task u w (Some halt) old new = FoundBehind task u w halt old new
