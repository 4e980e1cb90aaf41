-- Worked examples, computed: how the runs of a given text end. A variable of its name is set to another text.
use Rattle.std.proofs.Common.{◌≡◌, [], ◌∷◌, Option, Some, None, codes, length, refl}
use Rattle.std.specs.Prelude.{option_map}
use Rattle.std.specs.Fmt.{digits}
use Rattle.hushlang.specs.Expansion.{fields, joined, atoms}
use Rattle.hushlang.specs.Trees.{tree_of}
use Rattle.rehearse_terms.specs.State.{Text}
use Rattle.rehearse_terms.specs.declared.shell.Shell.TheVariants.{Profile}
use Rattle.rehearse_rules.specs.Runs.{all_runs}
use Rattle.rehearse_rules.proofs.ExampleRehearsals.{only_load}
use Rattle.rehearse_machine.specs.Tasks.{task_found}
use Rattle.rehearse_states.specs.Endings.{endings}
use Rattle.rehearse_states.specs.EndingLines.{endings_text, failing}

-- the lines of its runs, which reach one state
abbrev lines : Text → Option Text
lines text = option_map (λ t. endings_text [] (failing t) (endings [] t) (length (all_runs t)) 1)
    (task_found ((codes "boot.cmd", codes "exit 4") ∷ []) only_load (record { name = codes "boot.cmd"; given = Some text }) (record { devices = 3; steps = 20; failures = None; shell = Profile; room = None }))

-- fails if the variable goes first
given_goes_first : lines (codes "load a || exit 3") ≡ Some (codes "ends 1 first 0 fewest 0 0 end 0\nends 1 first 1 fewest 1 1 end 3\nfails load a\nall 2 states 1\n")
unfolding tree_of fields joined atoms digits
given_goes_first = refl

-- fails if another name is reported
no_script : lines (codes "if") ≡ Some (codes "ends 1 first . fewest 0 . stop syntax boot.cmd\nall 1 states 1\n")
unfolding tree_of fields joined atoms digits
no_script = refl
