-- Worked examples, computed: what a rehearsal runs. A variable of the same name as the given text is set too.
use Rattle.std.proofs.Common.{◌≡◌, ◌∙◌, List, [], ◌∷◌, Option, Some, None, ap, codes, refl}
use Rattle.std.specs.Prelude.{option_map, unwrap_or}
use Rattle.std.specs.FinMap as finite
use Rattle.std.specs.FinMap.{entries}
use Rattle.std.specs.Fmt.{digits}
use Rattle.hushlang.specs.Expansion.{fields, joined, atoms}
use Rattle.hushlang.specs.Trees.{tree_of}
use Rattle.bootstore_state.specs.Moment as stored
use Rattle.bootstore_state.specs.Moment.{environment_of}
use Rattle.bootstore_state.proofs.StateLemmas.{stored_changes, stored_starts}
use Rattle.device_list.specs.DeviceList.{Devices}
use Rattle.rehearse_terms.specs.Bounds.{BoundsShown}
use Rattle.rehearse_terms.specs.declared.written.Written.TheVariants.{Kept}
use Rattle.rehearse_terms.specs.State.{State, Text, Variables, get, with_value}
use Rattle.rehearse_terms.specs.declared.shell.Shell.TheVariants.{Profile}
use Rattle.rehearse_rules.specs.Execution.{Ending, End, Syntax}
use Rattle.rehearse_rules.specs.Runs.{Task, ending_of, run_on, state_of}
use Rattle.rehearse_rules.proofs.ExampleRehearsals.{limits, only_load}
use Rattle.rehearse_machine.specs.Tasks.{SourceShown, task_found, task_from, task_set, text_by, variable}

abbrev environment : List (Text × Text)
environment = (codes "boot.cmd", codes "exit 3") ∷ (codes "x", codes "exit 4") ∷ []

abbrev none : stored.Variables
none = finite.empty

no_variables : entries none ≡ []
no_variables = ap (λ (s : State). s.memory.locals) (stored_starts Kept none [])

-- a run starts with these variables
variables : entries (environment_of environment) ≡ environment
variables =
    stored_changes (finite.insert none (codes "boot.cmd") (codes "exit 3")) (codes "x") (codes "exit 4")
    ∙ ap (λ (vs : Variables). with_value vs (codes "x") (codes "exit 4")) (stored_changes none (codes "boot.cmd") (codes "exit 3"))
    ∙ ap (λ (vs : Variables). with_value (with_value vs (codes "boot.cmd") (codes "exit 3")) (codes "x") (codes "exit 4")) no_variables

abbrev bounds : BoundsShown
bounds = record { devices = 2; steps = 20; failures = None; shell = Profile; room = None }

abbrev named : Text → SourceShown
named text = record { name = codes "boot.cmd"; given = Some text }

-- what the text prints that is run, and how its run without outcomes ends
abbrev told_of : Task → Text × Ending
told_of task = (unwrap_or (state_of (run_on task [])).memory.text [], ending_of (run_on task []))

abbrev told_in : List (Text × Text) → SourceShown → Option (Text × Ending)
told_in env source = option_map told_of (task_found env only_load source bounds)

-- the same from the variables with which a run begins
abbrev told_from : Variables → SourceShown → Option (Text × Ending)
told_from vs source = option_map (λ text. told_of (record {
  limits = limits only_load 2 20;
  environment = vs;
  name = source.name;
  text = text;
  failures = None;
  written = Kept;
})) (text_by source.given (get vs source.name))

map_twice : (o : Option Text) (f : Text → Task) → option_map told_of (option_map f o) ≡ option_map (λ text. told_of (f text)) o
map_twice None f = refl
map_twice (Some text) f = refl

computed : (source : SourceShown) (t : Option (Text × Ending)) → told_from environment source ≡ t → told_in environment source ≡ t
computed source t h =
    map_twice (text_by source.given (get (entries (environment_of environment)) source.name)) (λ text. record (task_from environment only_load source bounds) { text = text })
    ∙ ap (λ (vs : Variables). told_from vs source) variables ∙ h

abbrev told : Text → Option (Text × Ending)
told text = told_in environment (named text)

-- the given text is run, and not the variable of its name (fails if the variable goes first)
given_goes_first : told (codes "exit 5") ≡ Some ([], End 5)
unfolding tree_of fields joined atoms digits
given_goes_first = refl

-- also an empty one (fails if an empty text counts as none)
empty_text : told [] ≡ Some ([], End 0)
unfolding tree_of fields joined atoms digits
empty_text = refl

-- no variable of this name has to be set (fails if one is asked for)
set_nowhere : told_in [] (named (codes "exit 5")) ≡ Some ([], End 5)
unfolding tree_of fields joined atoms digits
set_nowhere = refl

-- it sees the whole environment (these fail if the environment is left out)
sees_values : told (codes "echo $x") ≡ Some (codes "exit 4\n", End 0)
unfolding tree_of fields joined atoms digits
sees_values = computed (named (codes "echo $x")) (Some (codes "exit 4\n", End 0)) refl

runs_variables : told (codes "run x") ≡ Some ([], End 4)
unfolding tree_of fields joined atoms digits
runs_variables = computed (named (codes "run x")) (Some ([], End 4)) refl

-- and in it the variable of its name as it was (fails if the text is set there)
runs_its_namesake : told (codes "run boot.cmd") ≡ Some ([], End 3)
unfolding tree_of fields joined atoms digits
runs_its_namesake = computed (named (codes "run boot.cmd")) (Some ([], End 3)) refl

-- a text that the shell cannot read ends the run by its name, before anything is run (fails if another name is reported)
no_script : told (codes "echo a; if") ≡ Some ([], Syntax (codes "boot.cmd"))
unfolding tree_of fields joined atoms digits
no_script = refl

-- with no text it is the variable's (fails if the name alone makes a text), if it is set
of_variable : told_in environment (variable (codes "boot.cmd")) ≡ Some ([], End 3)
unfolding tree_of fields joined atoms digits
of_variable = computed (variable (codes "boot.cmd")) (Some ([], End 3)) refl

of_no_variable : told_in environment (variable (codes "bootcmd")) ≡ None
of_no_variable = computed (variable (codes "bootcmd")) (None) refl

-- the rehearsal of a variable is that of no given text
as_variable : (env : List (Text × Text)) (devices : Devices) (name : Text) (within : BoundsShown) → task_found env devices (variable name) within ≡ task_set env devices name within
as_variable env devices name within = refl
