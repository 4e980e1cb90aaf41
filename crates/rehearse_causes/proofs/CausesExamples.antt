-- Worked examples, computed: from the text of `bootcmd` to the lines of its causes.
use Rattle.std.proofs.Common.{ℕ, Bool, true, false, [], ◌∷◌, List, Some, codes, refl, ◌≡◌, None}
use Rattle.std.specs.Prelude.{option_map}
use Rattle.std.specs.Fmt.{digits}
use Rattle.device_list.specs.declared.finish.BoardEnd.TheVariants.{Boots, Restarts, Halts}
use Rattle.hushlang.specs.Expansion.{fields, joined, atoms}
use Rattle.hushlang.specs.Trees.{tree_of}
use Rattle.device_list.specs.DeviceLaws.{quiet}
use Rattle.device_list.specs.DeviceList.{only}
use Rattle.rehearse_terms.specs.State.{Text}
use Rattle.rehearse_terms.specs.declared.shell.Shell.TheVariants.{Profile}
use Rattle.rehearse_rules.specs.Execution.{End}
use Rattle.rehearse_rules.specs.Expected.{Answered}
use Rattle.rehearse_rules.specs.Runs.{Task}
use Rattle.rehearse_rules.proofs.ExampleRehearsals.{limits, bootcmd}
use Rattle.rehearse_machine.specs.Tasks.{task_found}
use Rattle.rehearse_causes.specs.Causes.{Cause, are_among, causes, covers, least, needs_less, times}
use Rattle.rehearse_causes.specs.CauseLines.{causes_text, is_fine, reported}

-- a script whose runs may fail so often; `load` comes back, `boot` does not
abbrev task : ℕ → Text → Task
task failures text = record (bootcmd (limits (only ((codes "load", quiet) ∷ (codes "boot", record quiet { ends = Some Boots }) ∷ [])) 4 20) text) { failures = Some failures }

abbrev lines : ℕ → Text → Text
lines failures text = causes_text (causes (task failures text))

abbrev checked_of : Task → Text × Bool
checked_of task = let told = reported true (causes task) in (causes_text told, is_fine true told)

abbrev checked : ℕ → Text → Text × Bool
checked failures text = checked_of (task failures text)

-- ---- scripts

-- what fails besides is not reported; a command that succeeds is not either
only_what_it_takes : lines 2 (codes "load a || load b; boot") ≡ codes "cause 0 booted boot\ncause 1 end 1\nfails boot\n"
unfolding tree_of fields joined atoms digits
only_what_it_takes = refl

-- a board that restarts does not boot, and a check reports it
abbrev restarting : Task
restarting = record (bootcmd (limits (only ((codes "load", quiet) ∷ (codes "reset", record quiet { ends = Some Restarts }) ∷ (codes "boot", record quiet { ends = Some Boots }) ∷ [])) 4 20) (codes "load && boot; reset")) { failures = Some 1 }

a_restart_is_no_boot : checked_of restarting ≡ (codes "cause 1 restarted reset\nfails boot\ncause 1 restarted reset\nfails load\n", false)
unfolding tree_of fields joined atoms digits
a_restart_is_no_boot = refl

-- nor does one that halts
abbrev halting : Task
halting = record (bootcmd (limits (only ((codes "load", quiet) ∷ (codes "poweroff", record quiet { ends = Some Halts }) ∷ (codes "boot", record quiet { ends = Some Boots }) ∷ [])) 4 20) (codes "load && boot; poweroff")) { failures = Some 1 }

a_halt_is_no_boot : checked_of halting ≡ (codes "cause 1 halted poweroff\nfails boot\ncause 1 halted poweroff\nfails load\n", false)
unfolding tree_of fields joined atoms digits
a_halt_is_no_boot = refl

-- two ways to one ending
two_ways : lines 2 (codes "load a || load b || exit 3; load c || exit 3; boot") ≡ codes "cause 0 booted boot\ncause 1 end 1\nfails boot\ncause 1 end 3\nfails load c\ncause 2 end 3\nfails load a\nfails load b\n"
unfolding tree_of fields joined atoms digits
two_ways = refl

-- a later run needs less than an earlier one
later_needs_less : lines 2 (codes "if load a; then load b || load a || exit 3; else exit 3; fi; boot") ≡ codes "cause 0 booted boot\ncause 1 end 1\nfails boot\ncause 1 end 3\nfails load a\n"
unfolding tree_of fields joined atoms digits
later_needs_less = refl

-- the same command may have to fail twice
twice : lines 2 (codes "load || load || exit 3; boot") ≡ codes "cause 0 booted boot\ncause 1 end 1\nfails boot\ncause 2 end 3\nfails load\nfails load\n"
unfolding tree_of fields joined atoms digits
twice = refl

-- of two runs that fail in the same commands, the first
the_first : lines 2 (codes "if load; then load || exit 3; else exit 3; fi; boot") ≡ codes "cause 0 booted boot\ncause 1 end 1\nfails boot\ncause 1 end 3\nfails load\n"
unfolding tree_of fields joined atoms digits
the_first = refl

-- runs with more failures than allowed are not looked at
within_failures : lines 1 (codes "load a || load b || exit 3; boot") ≡ codes "cause 0 booted boot\ncause 1 end 1\nfails boot\n"
unfolding tree_of fields joined atoms digits
within_failures = refl

-- no device command asks
no_device : lines 2 (codes "exit 4") ≡ codes "cause 0 end 4\n"
unfolding tree_of fields joined atoms digits
no_device = refl

-- in the order of the run
in_order : lines 2 (codes "load b || load a || exit 3; boot") ≡ codes "cause 0 booted boot\ncause 1 end 1\nfails boot\ncause 2 end 3\nfails load b\nfails load a\n"
unfolding tree_of fields joined atoms digits
in_order = refl

-- a text that is given, though a variable of its name is set (fails if the variable goes first)
of_a_given_text : option_map (λ t. causes_text (causes t)) (task_found ((codes "boot.cmd", codes "exit 4") ∷ []) (only ((codes "load", quiet) ∷ []))
    (record { name = codes "boot.cmd"; given = Some (codes "load a || exit 3") }) (record { devices = 4; steps = 20; failures = Some 1; shell = Profile; room = None }))
    ≡ Some (codes "cause 0 end 0\ncause 1 end 3\nfails load a\n")
unfolding tree_of fields joined atoms digits
of_a_given_text = refl

-- the device list `call load ** : normal 1` and `final boot`
abbrev expected : ℕ → Text → Task
expected failures text = record (bootcmd (limits (record (only ((codes "boot", record quiet { ends = Some Boots }) ∷ [])) { calls = (codes "load", (record { words = []; more = true }, record quiet { normal = true }) ∷ []) ∷ [] }) 4 20) text) { failures = Some failures }

-- a failure of `load` is nothing that has to fail, and its success is
success_is_a_cause : causes_text (causes (expected 1 (codes "load a && exit 3; boot"))) ≡ codes "cause 1 end 3\nsucceeds load a\ncause 0 booted boot\ncause 1 end 1\nfails boot\n"
unfolding tree_of fields joined atoms digits
success_is_a_cause = refl

as_expected : checked_of (expected 0 (codes "load a && exit 3; boot")) ≡ ([], true)
unfolding tree_of fields joined atoms digits
as_expected = refl

-- ---- checks

-- what boots is not reported
amiss : checked 2 (codes "load a || load b; boot") ≡ (codes "cause 1 end 1\nfails boot\n", false)
unfolding tree_of fields joined atoms digits
amiss = refl

all_boot : checked 1 (codes "boot a || boot b; boot c") ≡ ([], true)
unfolding tree_of fields joined atoms digits
all_boot = refl

-- without a check all is well
not_checked : is_fine false (reported false (causes (task 2 (codes "load a || load b; boot")))) ≡ true
unfolding tree_of fields joined atoms
not_checked = refl

-- ---- what needs less

abbrev a : List Text
a = codes "load" ∷ codes "a" ∷ []

abbrev b : List Text
b = codes "load" ∷ codes "b" ∷ []

counted : times a (a ∷ b ∷ a ∷ []) ≡ 2
counted = refl

abbrev fails : List Text → Answered
fails words = (false, words)

-- as often, and in any order
among_as_often : are_among (b ∷ a ∷ []) (a ∷ b ∷ []) ≡ true
among_as_often = refl

not_as_often : are_among (a ∷ a ∷ []) (a ∷ b ∷ []) ≡ false
not_as_often = refl

another_ending : covers (record { ending = End 0; fails = [] }) (record { ending = End 1; fails = fails a ∷ [] }) ≡ false
another_ending = refl

needs_as_much : needs_less (record { ending = End 0; fails = fails a ∷ fails b ∷ [] }) (record { ending = End 0; fails = fails b ∷ fails a ∷ [] }) ≡ false
needs_as_much = refl

needs_nothing : needs_less (record { ending = End 0; fails = [] }) (record { ending = End 0; fails = fails b ∷ [] }) ≡ true
needs_nothing = refl
