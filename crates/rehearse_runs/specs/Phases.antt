-- How far a rehearsal is. Ours.
use Rattle.std.specs.Prelude.{◌≡◌, ◌++◌, Option, Some, None, ℕ, ◌+◌, ◌*◌, ◌^◌, ◌≤◌, Bool, true, false, List, [], length, map, reverse, ⊤}
use Rattle.bootstore_state.specs.Record.{Record}
use Rattle.rehearse_terms.specs.Bounds.{most_steps}
use Rattle.rehearse_terms.specs.Outcomes.{OutcomeWord}
use Rattle.rehearse_terms.specs.State.{Text}
use Rattle.bootstore_state.specs.StoredState.{state_at}
use Rattle.rehearse_rules.specs.Execution.{Limits, Request}
use Rattle.rehearse_rules.specs.Runs.{Task, run_on, state_of, ending_of, runs, IsListed, rest}
use Rattle.rehearse_rules.specs.Listing.{outcome_digit}
use Rattle.output.specs.ByteArrayShown.{Held}
use Rattle.rehearse_runs.specs.RunsShown.{RunsShown, outcomes, to_come_after, given_if, words_made, in_front_of, work_of, last_answer}
use Rattle.rehearse_rules.specs.EndingsShown.{halt_shown}
use Rattle.rehearse_runs.specs.Searching.{AreAsked, AreMarks}
use Rattle.rehearse_rules.specs.declared.halt.Halt.{Halt}
use Rattle.rehearse_runs.specs.declared.runs.Phase.{Phase}
use Rattle.rehearse_runs.specs.declared.runs.Phase.TheVariants.{Fresh, At, Over, Failed}

abbrev pub is_failed : Phase → Bool
is_failed Fresh = false
is_failed (At halt) = false
is_failed Over = false
is_failed Failed = true

abbrev pub shows_run : Phase → Bool
shows_run Fresh = false
shows_run (At halt) = true
shows_run Over = false
shows_run Failed = false

-- each word to come begins at most this many steps, and there are fewer than 2 ^ 38 words
abbrev pub HasBudget : ℕ → List OutcomeWord → Type 0
HasBudget begun ws = begun + most_steps * length ws ≤ most_steps * 2 ^ 38

-- the store holds the run on a word
pub record StandsOn (task : Task) (w : OutcomeWord) (halt : Halt) (r : Record) : Type 0 where
  pub moment : state_at r.present [] ≡ state_of (run_on task w)
  pub ending : halt_shown halt ≡ ending_of (run_on task w)
  pub marks : AreMarks task w r.marked
  pub budget : HasBudget r.begun (rest task w)

-- what the store holds
abbrev pub StandsAt : Task → (has_given : Bool) → OutcomeWord → Record → Phase → Type 0
StandsAt task given w r Fresh = (given ≡ false) × HasBudget r.begun (runs task)
StandsAt task given w r (At halt) = (given ≡ true) × StandsOn task w halt r
StandsAt task given w r Over = (given ≡ true) × (rest task w ≡ [])
StandsAt task given w r Failed = ⊤

-- the commands that may still fail are kept while the store holds a run
abbrev pub KeepsAt : Phase → Limits → List Request → Record → Type 0
KeepsAt Fresh limits kept r = ⊤
KeepsAt (At halt) limits kept r = AreAsked limits (reverse kept) r.marked
KeepsAt Over limits kept r = ⊤
KeepsAt Failed limits kept r = ⊤

-- the word of the digits that were given to `after`, if any were
abbrev pub start_of : Option Held → Option OutcomeWord
start_of None = None
start_of (Some digits) = Some (outcomes digits.items)

-- the steps begun are those of the words that were given
pub record HasBegun (task : Task) (start given : Option OutcomeWord) (to_come : List OutcomeWord) (begun : ℕ) :
    Type 0 where
  pub answers : List OutcomeWord
  pub made : words_made task start ≡ answers ++ to_come
  pub last : given ≡ last_answer start answers
  pub work : begun ≡ work_of task start answers

-- if memory ran out, nothing is said of the steps begun
abbrev pub HasBegunIf : Phase → Task → (start given : Option OutcomeWord) → (to_come : List OutcomeWord) → ℕ → Type 0
HasBegunIf Fresh task start given to_come begun = HasBegun task start given to_come begun
HasBegunIf (At halt) task start given to_come begun = HasBegun task start given to_come begun
HasBegunIf Over task start given to_come begun = HasBegun task start given to_come begun
HasBegunIf Failed task start given to_come begun = ⊤

-- what is shown of a rehearsal
abbrev pub shown_at : Task → (start : Option OutcomeWord) → (has_given : Bool) → OutcomeWord → ℕ → Phase → RunsShown
shown_at task start given w begun phase = record {
  task = task;
  start = start;
  answers = in_front_of (words_made task start) (to_come_after given task w);
  to_come = to_come_after given task w;
  given = given_if given w;
  failed = is_failed phase;
  shows = shows_run phase;
  work = begun;
}

-- each is a digit
abbrev pub AreDigits : Text → Type 0
AreDigits digits = map outcome_digit (outcomes digits) ≡ digits

-- the word that was given is one of the runs
abbrev pub IsRunIf : Bool → Task → OutcomeWord → Type 0
IsRunIf true task w = IsListed task w
IsRunIf false task w = ⊤
