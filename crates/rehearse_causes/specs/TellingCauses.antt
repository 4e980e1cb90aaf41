-- What is written of the causes of an environment's variable or of a given text, and why it is refused. Ours.
use Rattle.std.specs.Prelude.{◌≡◌, Bool, List, Option, Some, None}
use Rattle.output.specs.Sink.{Sink, Wrote, BrokeOff}
use Rattle.text.specs.TextsShown.{option_bytes}
use Rattle.rehearse_terms.specs.State.{Text}
use Rattle.device_list.specs.DeviceList.{Devices}
use Rattle.rehearse_rules.specs.Runs.{Task}
use Rattle.rehearse_machine.specs.Tasks.{SourceShown, task_found}
use Rattle.rehearse_causes.specs.Causes.{Cause, causes}
use Rattle.rehearse_causes.specs.CauseLines.{causes_text, is_fine, reported}
use Rattle.rehearse_causes.specs.declared.telling.CausesAsk.{CausesAsk}
use Rattle.rehearse_rules.specs.declared.rehearse_error.RehearseError.{RehearseError}
use Rattle.rehearse_rules.specs.declared.rehearse_error.RehearseError.TheVariants.{NoSuchVariable, Write, Memory}

-- what is rehearsed
abbrev pub source_of : CausesAsk → SourceShown
source_of ask = record { name = ask.name.now; given = option_bytes ask.text }

-- the rehearsal of it, if a text is given or the variable is set
abbrev pub task_asked : List (Text × Text) → Devices → CausesAsk → Option Task
task_asked environment devices ask = task_found environment devices (source_of ask) ask.bounds

-- there is a text, and this holds of its causes, or of those that do not boot
pub record WithCauses (found : Option Task) (check : Bool) (IsSo : List Cause → Type 0) : Type 0 where
  pub task : Task
  pub task_is : found ≡ Some task
  pub so : IsSo (reported check (causes task))

-- their lines were written, and the answer says whether all is well
abbrev pub TellsCauses : (found : Option Task) → (check : Bool) → (old new : Sink) → (fine : Bool) → Type 0
TellsCauses found check old new fine =
    WithCauses found check (λ told. Wrote old new (causes_text told) × (fine ≡ is_fine check told))

-- why there are no lines
abbrev pub IsUntold : (found : Option Task) → RehearseError → Type 0
IsUntold found NoSuchVariable = found ≡ None
IsUntold found Memory = Unit {0}
IsUntold found _ = ⊥

-- why they were not; if the output failed, it failed inside the lines
abbrev pub RefusesCauses : (found : Option Task) → (check : Bool) → (old new : Sink) → RehearseError → Type 0
RefusesCauses found check old new NoSuchVariable = (found ≡ None) × (new ≡ old)
RefusesCauses found check old new Write = WithCauses found check (λ told. BrokeOff old new (causes_text told))
RefusesCauses found check old new Memory = new ≡ old
RefusesCauses found check old new _ = ⊥
