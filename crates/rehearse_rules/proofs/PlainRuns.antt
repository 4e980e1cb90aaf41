-- Runs over a device list in its plain form.
use Rattle.std.proofs.Common.{◌≡◌, ℕ, ◌||◌, nat_lt, Bool, true, false, cond, List, [], ◌∷◌, length, filter, Option, Some, None, Ok, refl, sym, ap, subst, ◌∙◌}
use Rattle.std.specs.List.{list_any}
use Rattle.std.specs.Str.{bytes_eq}
use Rattle.hushlang.specs.Tree.{Script}
use Rattle.rehearse_terms.specs.Outcomes.{OutcomeWord, Success, Failure, runs_within, after}
use Rattle.rehearse_terms.specs.State.{Text, State}
use Rattle.device_list.specs.Called.{Device, NoCommand}
use Rattle.device_list.specs.DeviceList.{Effect, Devices, effect_in, effect_of, listed}
use Rattle.device_list.specs.DeviceLaws.{quiet}
use Rattle.device_list.specs.PlainList.{plain_names}
use Rattle.rehearse_rules.specs.Execution.{Limits, Answer, Ended, CutDevices, Unknown, take_outcome, command, request_of}
use Rattle.rehearse_rules.specs.Runs.{run_on, all_runs, runs, rest, state_of, ending_of, kind_of}
use Rattle.rehearse_rules.specs.Listing.{record_text, record_of, listing}
use Rattle.rehearse_rules.specs.PlainExecution.{PlainTask, task_over, bounds_alone, answer, ask, plain_others, plain_run_on, plain_runs, plain_rest, plain_record, PlainRunsStand, PlainListingsStand, PlainRestsStand}
use Rattle.device_list.proofs.JoinedLines.{ok-same}
use Rattle.rehearse_rules.proofs.GivenRuns.{Does, AreGivenByList, given_by_list, run-same}
use Rattle.device_list.proofs.PlainLists.{quiet_effects, quiet_names, plain_lists_stand}
use Rattle.device_list.proofs.MarkLemmas.{unmarked}

-- ---- what a name calls

named-quiet : (names : List Text) (name : Text) → effect_in (quiet_effects names) name ≡ cond (list_any (bytes_eq name) names) (Some quiet) None
named-quiet [] name = refl
named-quiet (n ∷ names) name = by (bytes_eq name n) (named-quiet names name)
  where
    by : (here : Bool) → effect_in (quiet_effects names) name ≡ cond (list_any (bytes_eq name) names) (Some quiet) None
        → cond here (Some quiet) (effect_in (quiet_effects names) name) ≡ cond (here || list_any (bytes_eq name) names) (Some quiet) None
    by true rest = refl
    by false rest = rest

effect-quiet : (names : List Text) (name : Text) (words : List Text) → effect_of (quiet_names names) name words ≡ cond (list_any (bytes_eq name) names) (Some quiet) None
effect-quiet names name [] = named-quiet names name
effect-quiet names name (word ∷ words) = named-quiet names name

-- ---- an outcome without an effect

take-quiet : (name : Text) (words : List Text) (w : OutcomeWord) (s : State) → take_outcome (request_of name words quiet) w s ≡ answer (name ∷ words) w s
take-quiet name words [] s = refl
take-quiet name words (Success ∷ rest) s = refl
take-quiet name words (Failure ∷ rest) s = refl

-- ---- runs

module _ (task : PlainTask) where
  -- the limits over the commands that the names are
  abbrev limits : Limits
  limits = (task_over (quiet_names task.names) task).limits

  -- a command that is not built in
  other-same : (again : Bool) (f : Script → Does) (b : Bool) (name : Text) (words : List Text) (s : State)
      → ◌≡◌ {A = Answer} (command limits again f (elim (cond b (Some quiet) None) [ Some effect ↦ Device effect | None ↦ NoCommand ]) name words s)
      (elim b [ true ↦ ask task (name ∷ words) s | false ↦ Ended (Unknown name) s ])
  other-same again f false name words s = refl
  other-same again f true name words s = λ i. elim (nat_lt (length s.log) task.device_bound) [
    | true ↦ take-quiet name words s.word s i
    | false ↦ Ended CutDevices s
  ]

  others-same : AreGivenByList (bounds_alone task) (quiet_names task.names) (plain_others task)
  others-same again f name words s =
      ap (λ (e : Option Effect). command limits again f (elim e [ Some effect ↦ Device effect | None ↦ NoCommand ]) name words s) (effect-quiet task.names name words)
      ∙ other-same again f (list_any (bytes_eq name) task.names) name words s

  run-plain : (w : OutcomeWord) → run_on (task_over (quiet_names task.names) task) w ≡ plain_run_on task w
  run-plain w = run-same (bounds_alone task) refl (quiet_names task.names) refl (plain_others task) (given_by_list (bounds_alone task) (quiet_names task.names) (plain_others task) refl others-same) task.environment task.name task.text w

-- the commands of a list in the plain form
devices-quiet : (text : Text) (devices : Devices) (names : List Text) → plain_names text ≡ Ok names → listed text ≡ Ok devices → quiet_names names ≡ devices
devices-quiet text devices names plain rich = ok-same (sym (plain_lists_stand text names (unmarked text devices rich) plain) ∙ rich)

pub plain_runs_stand : PlainRunsStand
plain_runs_stand text devices task w plain rich =
    subst (λ (ds : Devices). run_on (task_over ds task) w ≡ plain_run_on task w) (devices-quiet text devices task.names plain rich) (run-plain task w)

-- runs and records by the result of the text with each word
abbrev runs_by : ℕ → (OutcomeWord → Answer) → List OutcomeWord
runs_by bound run = runs_within (λ w. kind_of (run w)) bound

abbrev record_by : List Text → (OutcomeWord → Answer) → OutcomeWord → Text
record_by names run w = record_text w (state_of (run w)) (ending_of (run w)) names

-- without a number, all runs are listed
all_kept : (ws : List OutcomeWord) → filter (λ w. true) ws ≡ ws
all_kept [] = refl
all_kept (w ∷ ws) = ap (λ (vs : List OutcomeWord). w ∷ vs) (all_kept ws)

none_left_out : (devices : Devices) (task : PlainTask) → runs (task_over devices task) ≡ all_runs (task_over devices task)
none_left_out devices task = all_kept (all_runs (task_over devices task))

module _ (text : Text) (devices : Devices) (task : PlainTask) (names : List Text) (plain : plain_names text ≡ Ok task.names) (rich : listed text ≡ Ok devices) where
  same_run : (w : OutcomeWord) → run_on (task_over devices task) w ≡ plain_run_on task w
  same_run w = plain_runs_stand text devices task w plain rich

  listing-same : (limit : Option ℕ) → listing (record_of (task_over devices task) names) (runs (task_over devices task)) limit ≡ listing (plain_record task names) (plain_runs task) limit
  listing-same limit =
      ap (λ (ws : List OutcomeWord). listing (record_of (task_over devices task) names) ws limit) (none_left_out devices task)
      ∙ λ i. listing (record_by names (λ w. same_run w i)) (runs_by task.device_bound (λ w. same_run w i)) limit

  rest-same : (u : OutcomeWord) (limit : Option ℕ) → listing (record_of (task_over devices task) names) (rest (task_over devices task) u) limit ≡ listing (plain_record task names) (plain_rest task u) limit
  rest-same u limit =
      ap (λ (ws : List OutcomeWord). listing (record_of (task_over devices task) names) (after u ws) limit) (none_left_out devices task)
      ∙ λ i. listing (record_by names (λ w. same_run w i)) (after u (runs_by task.device_bound (λ w. same_run w i))) limit

pub plain_listings_stand : PlainListingsStand
plain_listings_stand text devices task names limit plain rich = listing-same text devices task names plain rich limit

pub plain_rests_stand : PlainRestsStand
plain_rests_stand text devices task names u limit plain rich = rest-same text devices task names plain rich u limit
