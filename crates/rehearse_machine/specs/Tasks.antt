-- The task that a rehearsal is: what is run, an environment, a device list and bounds. Ours.
use Rattle.std.specs.Prelude.{[], Option, Some, None, option_map, unwrap_or, List}
use Rattle.std.specs.FinMap.{entries}
use Rattle.text.specs.TextsShown.{option_bytes}
use Rattle.bootstore_state.specs.Moment.{environment_of}
use Rattle.envtools.specs.Environment.{value_of}
use Rattle.rehearse_terms.specs.State.{Text, get}
use Rattle.rehearse_terms.specs.declared.written.Written.TheVariants.{Kept}
use Rattle.device_list.specs.DeviceList.{Devices}
use Rattle.rehearse_terms.specs.Bounds.{BoundsShown}
use Rattle.rehearse_rules.specs.Runs.{Task, task_of}
use Rattle.rehearse_machine.specs.declared.rehearsal.Rehearsal.{Rehearsal}
use Rattle.rehearse_machine.specs.declared.source.Source.{Source}

-- what is run: a text that is given, which has this name, or else the text of the variable of this name
pub record SourceShown : Type 0 where
  pub name : Text
  pub given : Option Text

abbrev pub source_shown : Source → SourceShown
source_shown source = record { name = source.name.now; given = option_bytes source.text }

-- a given text goes before the value of a variable
abbrev pub text_by : (given value : Option Text) → Option Text
text_by (Some text) value = Some text
text_by None value = value

-- the text that is run, if there is one
abbrev pub text_in : List (Text × Text) → SourceShown → Option Text
text_in env source = text_by source.given (value_of env source.name)

-- the rehearsal of a text in the whole environment; a variable that is not set is run as the empty text
abbrev pub task_from : List (Text × Text) → Devices → SourceShown → BoundsShown → Task
task_from env devices source bounds =
    let environment = entries (environment_of env) in
    record {
      limits = record { devices = devices; device_bound = bounds.devices; step_bound = bounds.steps; shell = bounds.shell; room = bounds.room };
      environment = environment;
      name = source.name;
      text = unwrap_or (text_by source.given (get environment source.name)) [];
      failures = bounds.failures;
      written = Kept;
    }

-- the same, if there is a text
abbrev pub task_found : List (Text × Text) → Devices → SourceShown → BoundsShown → Option Task
task_found env devices source bounds =
    option_map (λ text. record (task_from env devices source bounds) { text = text })
    (text_by source.given (get (entries (environment_of env)) source.name))

-- ---- the text of a variable

abbrev pub variable : Text → SourceShown
variable name = record { name = name; given = None }

-- the rehearsal of a variable of an environment
abbrev pub task_shown : List (Text × Text) → Devices → Text → BoundsShown → Task
task_shown env devices name bounds = task_from env devices (variable name) bounds

-- the same, if the variable is set
abbrev pub task_set : List (Text × Text) → Devices → Text → BoundsShown → Option Task
task_set env devices name bounds =
    task_of (record { devices = devices; device_bound = bounds.devices; step_bound = bounds.steps; shell = bounds.shell; room = bounds.room }) bounds.failures
    (entries (environment_of env)) name

abbrev pub task_in : Rehearsal → Task
task_in r = record (task_from r.env.now r.devices.now (source_shown r.source) r.bounds) { written = r.written }
