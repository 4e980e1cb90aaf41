-- Calls that other calls need, in logs that go on.
use Rattle.std.proofs.Common.{◌≡◌, refl, ℕ, Bool, ◌&&◌, ◌||◌, List, ◌++◌, length, take, Option, Some, true, false, ap, if◌then◌else◌}
use Rattle.std.proofs.lemmas.List.Folds.{list_any-append}
use Rattle.device_list.specs.DeviceList.{Effect}
use Rattle.rehearse_terms.specs.State.{Text, LoggedCommand, same_words, State}
use Rattle.rehearse_rules.specs.Needs.{has_succeeded, can_succeed, effect_now}

-- a log that goes on
pub succeeded_on : (log more : List LoggedCommand) (start : List Text) → has_succeeded (log ++ more) start ≡ (has_succeeded log start || has_succeeded more start)
succeeded_on log more start = list_any-append (λ e. e.success && same_words start (take (length start) e.words)) log more

-- what a command does in two states, if it can succeed in both or in neither
pub now_same : (room : Option ℕ) (effect : Effect) (s t : State) → can_succeed room t effect ≡ can_succeed room s effect → effect_now room t effect ≡ effect_now room s effect
now_same room effect s t h = ap (λ (b : Bool). if b then effect else record effect { stays = false; always = Some false }) h

-- whether it can says nothing of the file whose text runs
pub now_runs : (room : Option ℕ) (s : State) (effect : Effect) → (effect_now room s effect).runs ≡ effect.runs
now_runs room s effect = by (can_succeed room s effect)
  where
    by : (can : Bool) → (if can then effect else record effect { stays = false; always = Some false }).runs ≡ effect.runs
    by true = refl
    by false = refl
