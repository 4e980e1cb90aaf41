-- The runs of the text of a variable. Ours.
use Rattle.std.specs.Prelude.{◌≡◌, ℕ, ◌+◌, ◌-◌, nat_le, Bool, true, List, [], ◌∷◌, length, filter, Option, Some, None, option_map}
use Rattle.rehearse_terms.specs.Outcomes.{OutcomeWord, WordKind, Run, Short, Long, runs_within, after, common_prefix}
use Rattle.rehearse_terms.specs.State.{Text, Variables, get, State, start}
use Rattle.rehearse_terms.specs.declared.written.Written.{Written}
use Rattle.rehearse_terms.specs.declared.written.Written.TheVariants.{Kept, Dropped}
use Rattle.rehearse_rules.specs.Execution.{Limits, Answer, Normal, Exit, Ended, Dry, Ending, End, exec, run_text}
use Rattle.rehearse_rules.specs.Expected.{asked_in, unexpected_of}

-- a variable and its text, rehearsed from an environment
pub record Task : Type 0 where
  pub limits : Limits
  pub environment : Variables
  pub name : Text
  pub text : Text
  -- how many answers of a run may be unexpected; none for any number
  pub failures : Option ℕ
  -- whether the text that it writes is kept
  pub written : Written

-- the rehearsal of a variable, if it is set
abbrev pub task_of : Limits → (failures : Option ℕ) → Variables → Text → Option Task
task_of limits failures environment name =
    option_map (λ text. record {
      limits = limits;
      environment = environment;
      name = name;
      text = text;
      failures = failures;
      written = Kept;
    }) (get environment name)

-- the task, with what it writes dropped
abbrev pub unheard : Task → Task
unheard task = record task { written = Dropped }

-- the result of the text with the outcomes of a word
abbrev pub run_on : Task → OutcomeWord → Answer
run_on task w = run_text task.limits (exec task.limits task.limits.step_bound) task.name task.text
    (start task.written task.environment w)

-- the state that an answer reaches
abbrev pub state_of : Answer → State
state_of (Normal s) = s
state_of (Exit s) = s
state_of (Ended ending s) = s
state_of (Dry s) = s

-- and how the run then ends
abbrev pub ending_of : Answer → Ending
ending_of (Normal s) = End s.memory.status
ending_of (Exit s) = End s.memory.status
ending_of (Ended ending s) = ending
ending_of (Dry s) = End s.memory.status

abbrev pub taken_kind : State → WordKind
taken_kind s = elim s.word [ [] ↦ Run | o ∷ os ↦ Long ]

abbrev pub kind_of : Answer → WordKind
kind_of (Normal s) = taken_kind s
kind_of (Exit s) = taken_kind s
kind_of (Ended ending s) = taken_kind s
kind_of (Dry s) = Short

-- whether a word is a run, too short or too long
abbrev pub kind : Task → OutcomeWord → WordKind
kind task w = kind_of (run_on task w)

-- all runs, in dictionary order
abbrev pub all_runs : Task → List OutcomeWord
all_runs task = runs_within (kind task) task.limits.device_bound

-- how many answers of the run on a word are not the expected ones
abbrev pub unexpected : Task → OutcomeWord → ℕ
unexpected task w = length (unexpected_of task.limits.devices (asked_in (state_of (run_on task w)).log))

-- without a number, any may be
abbrev pub is_at_most : (most : Option ℕ) → ℕ → Bool
is_at_most None n = true
is_at_most (Some most) n = nat_le n most

-- whether they are no more than may be
abbrev pub is_allowed : Task → OutcomeWord → Bool
is_allowed task w = is_at_most task.failures (unexpected task w)

-- the runs of which this holds, in the same order
abbrev pub runs : Task → List OutcomeWord
runs task = filter (is_allowed task) (all_runs task)

-- a word is one of them
pub record IsListed (task : Task) (w : OutcomeWord) : Type 0 where
  pub run : kind task w ≡ Run
  pub few : is_allowed task w ≡ true

-- the runs after w
abbrev pub rest : Task → OutcomeWord → List OutcomeWord
rest task w = after w (runs task)

-- ---- work

-- how many steps are begun with the outcomes of a word
abbrev pub steps : Task → OutcomeWord → ℕ
steps task w = (state_of (run_on task w)).steps

-- the same for a word after which a device command asks for one more outcome
abbrev pub asked : Task → OutcomeWord → ℕ
asked task p = steps task p

-- the steps begun for these words after u, each from the last command that it shares with the word before it
abbrev pub work_from : Task → OutcomeWord → List OutcomeWord → ℕ
work_from task u [] = 0
work_from task u (v ∷ vs) = (steps task v - asked task (common_prefix u v)) + work_from task v vs

-- the steps begun for these words if each command of their tree of choices is begun once
abbrev pub work : Task → List OutcomeWord → ℕ
work task [] = 0
work task (w ∷ ws) = steps task w + work_from task w ws
