-- Over a device list on which no answer stays, no command is given an answer again.
use Rattle.std.proofs.Common.{ℕ, ◌&&◌, None, ◌≡◌, ◌∙◌, Bool, true, false, not, cond, List, [], ◌∷◌, ◌++◌, length, map, refl, sym, ap, subst, nat_lt, Option, Some, if◌then◌else◌}
use Rattle.std.proofs.lemmas.List.Elements.{filter-append}
use Rattle.device_list.specs.declared.finish.BoardEnd.{BoardEnd}
use Rattle.device_list.specs.Called.{sets_in}
use Rattle.device_list.specs.DeviceList.{Effect}
use Rattle.rehearse_rules.specs.Execution.{Limits, Answer, Ended, CutDevices, Request, take_outcome, device, logged, set_environment, finish}
use Rattle.rehearse_rules.specs.Laws.{WholeLogIsWord}
use Rattle.rehearse_rules.specs.Needs.{is_met, has_room, effect_now}
use Rattle.rehearse_terms.specs.Outcomes.{OutcomeWord, Success, Failure}
use Rattle.rehearse_rules.specs.Runs.{run_on, state_of}
use Rattle.rehearse_terms.specs.State.{Text, LoggedCommand, State, asked_of, start}
use Rattle.rehearse_rules.proofs.GivenRuns.{asks_anew}
use Rattle.rehearse_rules.proofs.KeptLogs.{KeepsLog, run-keeps}
use Rattle.rehearse_rules.proofs.TaskChoices.{log_is_word}

-- each command in the log took an outcome
abbrev AllTook : List LoggedCommand → Type 0
AllTook log = asked_of log ≡ log

abbrev AllAsked : State → Type 0
AllAsked s = AllTook s.log

-- one more command took an outcome
one_more : (log : List LoggedCommand) (e : LoggedCommand) → e.again ≡ false → asked_of log ≡ log → asked_of (log ++ e ∷ []) ≡ log ++ e ∷ []
one_more log e is h =
    let one : asked_of (e ∷ []) ≡ e ∷ [] = ap (λ (b : Bool). cond (not b) (e ∷ []) []) is in
    filter-append (λ e. not e.again) log (e ∷ []) ∙ (λ i. h i ++ one i)

asks-finish : (ends : Option BoardEnd) (name : Text) (s : State) → AllAsked s → AllAsked (state_of (finish ends name s))
asks-finish (Some finish) name s h = h
asks-finish None name s h = h

asks-take : (r : Request) (w : OutcomeWord) (s : State) → r.again ≡ false → AllAsked s → AllAsked (state_of (take_outcome r w s))
asks-take r [] s fresh h = h
asks-take r (Success ∷ rest) s fresh h =
    let e : LoggedCommand = record { success = true; words = r.name ∷ r.words; stays = r.effect.stays; again = r.again } in
    asks-finish r.effect.ends r.name (set_environment (sets_in r.words r.effect.sets) (logged Success r (record s { word = rest }))) (one_more s.log e fresh h)
asks-take r (Failure ∷ rest) s fresh h = one_more s.log (record { success = false; words = r.name ∷ r.words; stays = r.effect.stays; again = r.again }) fresh h

abbrev AsksAnew : Effect → Type 0
AsksAnew effect = (effect.stays ≡ false) × (effect.always ≡ None)

asks-device : (limits : Limits) (r : Request) → r.again ≡ false → AsksAnew r.effect → KeepsLog AllTook (device limits r)
asks-device limits r fresh anew s h =
    subst (λ (a : Answer). AllAsked (state_of a)) (sym (asks_anew limits r s anew.0 anew.1))
    (by (nat_lt (length s.log) limits.device_bound))
  where
    by : (room : Bool) → AllAsked (state_of (elim room [ true ↦ take_outcome r s.word s | false ↦ Ended CutDevices s ]))
    by true = asks-take r s.word s fresh h
    by false = h

-- a command that needs none does what the list says, if there is room for all
pub now_as_said : (room : Option ℕ) (s : State) (effect : Effect) → room ≡ None → effect.needs ≡ [] → effect_now room s effect ≡ effect
now_as_said room s effect all none =
    ap (λ (o : Option ℕ). effect_now o s effect) all
    ∙ ap (λ (needs : List Text). if is_met needs s.log && has_room None s.memory.environment effect.sets then effect else record effect { stays = false; always = Some false }) none

pub whole_log_is_word : WholeLogIsWord
whole_log_is_word task w all_saved each always run =
    let all : AllAsked (state_of (run_on task w)) = run-keeps AllTook task.limits (λ s name words effect. AsksAnew effect) (λ name named s words. (each.1, refl)) (λ name words effect e s.
    let said = always name words effect e in
    subst AsksAnew (sym (now_as_said task.limits.room s effect all_saved said.1)) (each.0 name words effect e, said.0)) (λ r fresh s anew h. asks-device task.limits r fresh anew s h) task.limits.step_bound task.name task.text (start task.written task.environment w) refl in
    ap (map (λ e. e.success)) (sym all) ∙ log_is_word task w run
