-- What contracts see of `Runs`, of a run that it gives, and of a call of `next`. Ours.
use Rattle.std.specs.Prelude.{ℕ, suc, ◌+◌, ◌-◌, length, take, Bool, true, false, nat_eq, List, [], ◌∷◌, map, Option, Some, None, unwrap_or}
use Rattle.text.specs.Bytes as ascii
use Rattle.rehearse_terms.specs.Outcomes.{OutcomeWord, Outcome, Success, Failure, common_prefix}
use Rattle.rehearse_terms.specs.State.{Text}
use Rattle.rehearse_rules.specs.Runs.{Task, runs, rest, steps, asked, work, work_from}

-- the rehearsal, the word given to `after`, the words that `next` gave since, the words still to come, the last word
-- that was given either way, whether it failed as memory ran out, whether a run is shown, and the steps begun
pub record RunsShown : Type 0 where
  pub task : Task
  pub start : Option OutcomeWord
  pub answers : List OutcomeWord
  pub to_come : List OutcomeWord
  pub given : Option OutcomeWord
  pub failed : Bool
  pub shows : Bool
  pub work : ℕ

abbrev pub outcome_of : ℕ → Outcome
outcome_of digit = elim (nat_eq digit ascii.digit_zero) [ true ↦ Success | false ↦ Failure ]

-- the word of digits
abbrev pub outcomes : Text → OutcomeWord
outcomes digits = map outcome_of digits

-- how many successes a word has
abbrev pub successes : OutcomeWord → ℕ
successes [] = 0
successes (Success ∷ w) = suc (successes w)
successes (Failure ∷ w) = successes w

abbrev pub to_come_after : (has_given : Bool) → Task → OutcomeWord → List OutcomeWord
to_come_after true task w = rest task w
to_come_after false task w = runs task

abbrev pub given_if : (has_given : Bool) → OutcomeWord → Option OutcomeWord
given_if true w = Some w
given_if false w = None

-- the words of a rehearsal: all runs, or the runs after the start word
abbrev pub words_made : Task → (start : Option OutcomeWord) → List OutcomeWord
words_made task None = runs task
words_made task (Some w) = rest task w

-- the last of these words, or the one before them
abbrev pub last_answer : (before : Option OutcomeWord) → List OutcomeWord → Option OutcomeWord
last_answer before [] = before
last_answer before (w ∷ ws) = last_answer (Some w) ws

-- the words before the ones that are left
abbrev pub in_front_of : (all left : List OutcomeWord) → List OutcomeWord
in_front_of all left = take (length all - length left) all

-- the steps begun for these words, each command of their tree of choices once; after a start word its steps come first
abbrev pub work_of : Task → (start : Option OutcomeWord) → List OutcomeWord → ℕ
work_of task None ws = work task ws
work_of task (Some w) ws = steps task w + work_from task w ws

-- the last word
abbrev pub last_given : RunsShown → OutcomeWord
last_given shown = unwrap_or shown.given []

-- the steps begun before the last word and the next one differ
abbrev pub steps_shared : Task → Option OutcomeWord → OutcomeWord → ℕ
steps_shared task None w = 0
steps_shared task (Some u) w = asked task (common_prefix u w)

abbrev pub has_words : List OutcomeWord → Bool
has_words [] = false
has_words (w ∷ ws) = true

-- the runs when no word was given yet
abbrev pub new_runs : Task → RunsShown
new_runs task = record {
  task = task;
  start = None;
  answers = [];
  to_come = runs task;
  given = None;
  failed = false;
  shows = false;
  work = 0;
}
