-- The walk along the digits of a word. Ours.
use Rattle.std.specs.Prelude.{◌≡◌, ◌≢◌, ◌+◌, ◌≤◌, Bool, [], ◌∷◌, ◌++◌, List, map, reverse, Option, Some, None}
use Rattle.std.specs.Borrow.{Bor}
use Rattle.bootstore_state.specs.Record.{Record}
use Rattle.rehearse_terms.specs.Bounds.{most_steps}
use Rattle.rehearse_terms.specs.Outcomes.{OutcomeWord, Outcome, Run, Short, Long}
use Rattle.rehearse_terms.specs.State.{Text}
use Rattle.bootstore_state.specs.StoredState.{state_at}
use Rattle.rehearse_rules.specs.Execution.{Limits, Request}
use Rattle.rehearse_rules.specs.Runs.{Task, run_on, state_of, ending_of, kind}
use Rattle.rehearse_rules.specs.Listing.{outcome_digit}
use Rattle.rehearse_rules.specs.EndingsShown.{halt_shown}
use Rattle.rehearse_machine.specs.Machine.{outcome_when}
use Rattle.rehearse_runs.specs.Searching.{AreAsked, AreMarks}
use Rattle.rehearse_rules.specs.declared.halt.Halt.{Halt}
use Rattle.rehearse_runs.specs.declared.walking.Walked.{Walked}
use Rattle.rehearse_runs.specs.declared.walking.Walked.TheVariants as walked

-- a text starts with the digit of an outcome, and this is the rest; or it does not start with a digit
abbrev pub BeginsWithDigit : Text → Option (Bool × Bor Text) → Type 0
BeginsWithDigit text (Some next) = text ≡ outcome_digit (outcome_when next.0) ∷ next.1.now
BeginsWithDigit text None = (d : Outcome) (w : OutcomeWord) → text ≢ outcome_digit d ∷ map outcome_digit w

-- the store holds the run on a word
pub record Reached (task : Task) (w : OutcomeWord) (halt : Halt) (old new : Record) : Type 0 where
  pub run : kind task w ≡ Run
  pub moment : state_at new.present [] ≡ state_of (run_on task w)
  pub ending : halt_shown halt ≡ ending_of (run_on task w)
  pub marks : AreMarks task w new.marked
  pub begun : new.begun + old.present.steps ≡ old.begun + new.present.steps
  pub within : new.present.steps ≤ most_steps

-- after the outcomes p, a text is not the digits of a run, and not too short for one
abbrev pub IsLongBehind : Task → (p : OutcomeWord) → Text → Type 0
IsLongBehind task p text = (v : OutcomeWord) → text ≡ map outcome_digit v → kind task (p ++ v) ≡ Long

-- the text is digits, and a device command asks after them
abbrev pub IsShortBehind : Task → (p : OutcomeWord) → Text → Type 0
IsShortBehind task p text = (v : OutcomeWord) × (text ≡ map outcome_digit v) × (kind task (p ++ v) ≡ Short)

-- the word w of all digits is p and the outcomes of the text
abbrev pub IsWordBehind : (p : OutcomeWord) → (front text all : Text) → (w : OutcomeWord) → Type 0
IsWordBehind p front text all w =
    (v : OutcomeWord) × (text ≡ map outcome_digit v) × (w ≡ p ++ v) × (all ≡ front ++ text)

-- the walk along a text that follows the digits `front`
abbrev pub Walks : Task → (p : OutcomeWord) → (front text all : Text) → (w : OutcomeWord) → Walked
    → (old new : Record) → Type 0
Walks task p front text all w (walked.Ends halt) old new = IsWordBehind p front text all w × Reached task w halt old new
Walks task p front text all w walked.Short old new = IsShortBehind task p text
Walks task p front text all w walked.Long old new = IsLongBehind task p text

-- the store holds the run on a word, walked from its start
pub record ReachedFirst (task : Task) (w : OutcomeWord) (halt : Halt) (old new : Record) : Type 0 where
  pub run : kind task w ≡ Run
  pub moment : state_at new.present [] ≡ state_of (run_on task w)
  pub ending : halt_shown halt ≡ ending_of (run_on task w)
  pub marks : AreMarks task w new.marked
  pub begun : new.begun ≡ old.begun + new.present.steps
  pub within : new.present.steps ≤ most_steps

abbrev pub WalksTo : Task → (text all : Text) → (w : OutcomeWord) → Walked → (old new : Record) → Type 0
WalksTo task text all w (walked.Ends halt) old new = (text ≡ map outcome_digit w) × (all ≡ text)
    × ReachedFirst task w halt old new
WalksTo task text all w walked.Short old new = IsShortBehind task [] text
WalksTo task text all w walked.Long old new = IsLongBehind task [] text

-- at the end of a run, the commands that may still fail are kept
abbrev pub KeepsFor : Walked → Limits → (kept : List Request) → Record → Type 0
KeepsFor (walked.Ends halt) limits kept r = AreAsked limits (reverse kept) r.marked
KeepsFor walked.Short limits kept r = Unit {0}
KeepsFor walked.Long limits kept r = Unit {0}
