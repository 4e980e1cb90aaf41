-- Execution over a device list of names alone (PlainList.antt). A command of the list asks for an outcome and changes
-- nothing else. Everything else is defined by Execution.antt, over the tree as in GivenExecution.antt. Ours.
use Rattle.std.specs.Prelude.{◌≡◌, ℕ, nat_lt, true, false, List, [], ◌∷◌, ◌++◌, length, Option, None, Ok}
use Rattle.std.specs.List.{list_any}
use Rattle.std.specs.Str.{bytes_eq}
use Rattle.rehearse_terms.specs.Outcomes.{OutcomeWord, runs_within, after}
use Rattle.rehearse_terms.specs.State.{Text, Variables, State}
use Rattle.rehearse_terms.specs.declared.shell.Shell.TheVariants.{Profile}
use Rattle.rehearse_terms.specs.declared.written.Written.TheVariants.{Kept}
use Rattle.device_list.specs.DeviceList.{Devices, only, listed}
use Rattle.device_list.specs.PlainList.{plain_names}
use Rattle.rehearse_rules.specs.Execution.{Limits, Answer, Normal, Ended, Dry, CutDevices, Unknown, set_status, status_when, succeeds}
use Rattle.rehearse_rules.specs.GivenExecution.{given_run_on}
use Rattle.rehearse_rules.specs.Runs.{Task, run_on, state_of, ending_of, kind_of, runs, rest}
use Rattle.rehearse_rules.specs.Listing.{record_text, record_of, listing}

-- a variable and its text, rehearsed from an environment over a list of names
pub record PlainTask : Type 0 where
  pub names : List Text
  pub device_bound : ℕ
  pub step_bound : ℕ
  pub environment : Variables
  pub name : Text
  pub text : Text

-- the same over the commands of a device list
abbrev pub task_over : Devices → PlainTask → Task
task_over devices task = record {
  limits = record { devices = devices; device_bound = task.device_bound; step_bound = task.step_bound; shell = Profile; room = None };
  environment = task.environment;
  name = task.name;
  text = task.text;
  failures = None;
  written = Kept;
}

-- the bounds, with no listed command; what is shared with Execution.antt reads these
abbrev pub bounds_alone : PlainTask → Limits
bounds_alone task = (task_over (only []) task).limits

-- a listed command, by its words, takes the next outcome; the log has both, and the outcome is the status
abbrev pub answer : (words : List Text) → OutcomeWord → State → Answer
answer words [] s = Dry s
answer words (outcome ∷ more) s =
    Normal (set_status (status_when (succeeds outcome)) (record s {
      log = s.log ++ record { success = succeeds outcome; words = words; stays = false; again = false } ∷ [];
      word = more;
    }))

module _ (task : PlainTask) where
  -- it is asked if the bound allows one more
  abbrev pub ask : (words : List Text) → State → Answer
  ask words s =
      elim (nat_lt (length s.log) task.device_bound) [
        | true ↦ answer words s.word s
        | false ↦ Ended CutDevices s
      ]

  -- a command that is not built in: one of the list, or an unknown one
  abbrev pub plain_others : (name : Text) → (words : List Text) → State → Answer
  plain_others name words s =
      elim (list_any (bytes_eq name) task.names) [
        | true ↦ ask (name ∷ words) s
        | false ↦ Ended (Unknown name) s
      ]

  -- ---- runs, records and the listing, as in Runs.antt and Listing.antt

  -- the result of the text with the outcomes of a word
  abbrev pub plain_run_on : OutcomeWord → Answer
  plain_run_on = given_run_on (bounds_alone task) plain_others task.environment task.name task.text

  abbrev pub plain_runs : List OutcomeWord
  plain_runs = runs_within (λ w. kind_of (plain_run_on w)) task.device_bound

  abbrev pub plain_record : (names : List Text) → OutcomeWord → Text
  plain_record names w = record_text w (state_of (plain_run_on w)) (ending_of (plain_run_on w)) names

  -- the runs after u
  abbrev pub plain_rest : OutcomeWord → List OutcomeWord
  plain_rest u = after u plain_runs

-- ---- laws of device lists in the plain form

-- A run over such a list is the run over its names.
abbrev pub PlainRunsStand : Type 0
PlainRunsStand =
    (text : Text) (devices : Devices) (task : PlainTask) (w : OutcomeWord) → plain_names text ≡ Ok task.names →
    listed text ≡ Ok devices → run_on (task_over devices task) w ≡ plain_run_on task w

-- So the listing over such a list has the bytes of the listing over its names,
abbrev pub PlainListingsStand : Type 0
PlainListingsStand =
    (text : Text) (devices : Devices) (task : PlainTask) (names : List Text) (limit : Option ℕ) →
    plain_names text ≡ Ok task.names → listed text ≡ Ok devices → let rich = task_over devices task in
    listing (record_of rich names) (runs rich) limit ≡ listing (plain_record task names) (plain_runs task) limit

-- and so has the listing of the runs after a word.
abbrev pub PlainRestsStand : Type 0
PlainRestsStand =
    (text : Text) (devices : Devices) (task : PlainTask) (names : List Text) (u : OutcomeWord) (limit : Option ℕ) →
    plain_names text ≡ Ok task.names → listed text ≡ Ok devices → let rich = task_over devices task in
    listing (record_of rich names) (rest rich u) limit ≡ listing (plain_record task names) (plain_rest task u) limit
