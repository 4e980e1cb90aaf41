-- Worked examples, computed: device commands that hand over to the text of a file.
use Rattle.std.proofs.Common.{◌≡◌, true, List, [], ◌∷◌, Some, None, codes, length, refl, map, replicate}
use Rattle.device_list.specs.declared.finish.BoardEnd.TheVariants.{Boots}
use Rattle.device_list.specs.DeviceList.{FileText, Variable, Literal, Effect, Devices, only}
use Rattle.device_list.specs.DeviceLaws.{quiet}
use Rattle.rehearse_terms.specs.State.{Text}
use Rattle.rehearse_terms.specs.declared.shell.Shell.TheVariants.{Profile, Old2023, Old2025, Modern2025}
use Rattle.rehearse_rules.specs.Execution.{End, CutSteps, Panic, Syntax, Unsupported}
use Rattle.rehearse_rules.specs.Runs.{Task}
use Rattle.rehearse_rules.proofs.ExampleRehearsals.{limits, bootcmd, z, listed, ends_along, listed_along, along, Told, told_of}

-- `source` runs boot.scr
abbrev source : Effect
source = record quiet { runs = codes "boot.scr" ∷ [] }

-- a text that is no image
abbrev plain : Text → FileText
plain text = record { text = text; size = length text }

-- a device list of `source`, and the text of the file
abbrev sources : Effect → Text → Devices
sources effect file = record (only ((codes "source", effect) ∷ [])) { files = (codes "boot.scr", plain file) ∷ [] }

-- a text is rehearsed, with this file
abbrev sourcing : Effect → (file text : Text) → Task
sourcing effect file text = bootcmd (limits (sources effect file) 16 10000) text

-- ---- after a success alone the text runs

after_a_success : listed (sourcing source (codes "echo a") (codes "source; echo $?")) z None ≡ codes "run 0\ndev 0 source\ntext a\\n0\\n\nunset z\nend 0\nrun 1\ndev 1 source\ntext 1\\n\nunset z\nend 0\ndone\n"
unfolding listed_along ends_along
after_a_success = along 1 (sourcing source (codes "echo a") (codes "source; echo $?")) z None _ refl refl

-- its status is that of the call, also where `||` asks for it
its_status : listed (sourcing source (codes "echo a; false") (codes "source || echo b")) z None ≡ codes "run 0\ndev 0 source\ntext a\\nb\\n\nunset z\nend 0\nrun 1\ndev 1 source\ntext b\\n\nunset z\nend 0\ndone\n"
unfolding listed_along ends_along
its_status = along 1 (sourcing source (codes "echo a; false") (codes "source || echo b")) z None _ refl refl

-- a device command in it asks as any other
asking_in_it : listed (sourcing source (codes "test -e mmc 0:1 b && echo b") (codes "source && echo a")) z None ≡ codes "run 00\ndev 0 source\ndev 0 test -e mmc 0:1 b\ntext b\\na\\n\nunset z\nend 0\nrun 01\ndev 0 source\ndev 1 test -e mmc 0:1 b\nunset z\nend 1\nrun 1\ndev 1 source\nunset z\nend 1\ndone\n"
unfolding listed_along ends_along
asking_in_it = along 2 (sourcing source (codes "test -e mmc 0:1 b && echo b") (codes "source && echo a")) z None _ refl refl

-- it runs with what the command has set, and sets variables for what follows
its_variables : listed (sourcing (record source { sets = (Variable (codes "a"), Literal (codes "1")) ∷ [] }) (codes "setenv z $a; b=2") (codes "source; echo $a$b")) z (Some 1) ≡ codes "run 0\ndev 0 source\ntext 12\\n\nvar z=1\nend 0\nmore 0\n"
unfolding listed_along ends_along
its_variables = along 1 (sourcing (record source { sets = (Variable (codes "a"), Literal (codes "1")) ∷ [] }) (codes "setenv z $a; b=2") (codes "source; echo $a$b")) z (Some 1) _ refl refl

-- a command that ends the run hands nothing over
ending_the_run : listed (sourcing (record source { ends = Some Boots }) (codes "echo a") (codes "source")) z (Some 1) ≡ codes "run 0\ndev 0 source\nunset z\nbooted source\nmore 0\n"
unfolding listed_along ends_along
ending_the_run = along 1 (sourcing (record source { ends = Some Boots }) (codes "echo a") (codes "source")) z (Some 1) _ refl refl

-- a command that is given its answer again hands over again
told_again : listed (sourcing (record source { stays = true }) (codes "echo a") (codes "source; source")) z None ≡ codes "run 0\ndev 0 source\ndev 0 source\ntext a\\na\\n\nunset z\nend 0\nrun 1\ndev 1 source\ndev 1 source\nunset z\nend 1\ndone\n"
unfolding listed_along ends_along
told_again = along 1 (sourcing (record source { stays = true }) (codes "echo a") (codes "source; source")) z None _ refl refl

-- a file that is not there
no_file : listed (bootcmd (limits (only ((codes "source", source) ∷ [])) 16 10000) (codes "source; echo $?")) z (Some 1) ≡ codes "run 0\ndev 0 source\ntext 1\\n\nunset z\nend 0\nmore 0\n"
unfolding listed_along ends_along
no_file = along 1 (bootcmd (limits (only ((codes "source", source) ∷ [])) 16 10000) (codes "source; echo $?")) z (Some 1) _ refl refl

-- ---- in each shell, of a command that always succeeds

abbrev always : Effect
always = record source { always = Some true }

-- what a text writes and how it ends, with this file
abbrev in_each : (file text : Text) → List Told
in_each file text = map (λ shell. told_of (bootcmd (record (limits (sources always file) 16 12) { shell = shell }) text)) (Profile ∷ Old2023 ∷ Old2025 ∷ Modern2025 ∷ [])

abbrev all_write : Text → List Told
all_write text = replicate 4 (text, End 0)

a_text : in_each (codes "echo a; echo b") (codes "source && echo c") ≡ all_write (codes "a\nb\nc\n")
unfolding told_of
a_text = refl

a_status : in_each (codes "echo a; false") (codes "source; echo $?") ≡ all_write (codes "a\n1\n")
unfolding told_of
a_status = refl

-- a text without a command has the status 0
empty_text : in_each [] (codes "source; echo $?") ≡ all_write (codes "0\n")
unfolding told_of
empty_text = refl

-- it starts with the status from before the call, but a text without a command has the status 0
status_before : in_each (codes "echo $?") (codes "false; source; echo $?") ≡ all_write (codes "1\n0\n")
unfolding told_of
status_before = refl

status_before_nothing : in_each [] (codes "false; source; echo $?") ≡ all_write (codes "0\n")
unfolding told_of
status_before_nothing = refl

-- to the old shells a text of two lines that ends in a newline has a third one, without a command, and with the status 0
last_line : in_each (codes "echo a\nfalse\n") (codes "source; echo $?") ≡ (codes "a\n1\n", End 0) ∷ (codes "a\n0\n", End 0) ∷ (codes "a\n0\n", End 0) ∷ (codes "a\n1\n", End 0) ∷ []
unfolding told_of
last_line = refl

exit_before_the_last_line : in_each (codes "exit 3\n\n") (codes "source; echo $?") ≡ (codes "3\n", End 0) ∷ (codes "0\n", End 0) ∷ (codes "3\n", End 0) ∷ ([], End 3) ∷ []
unfolding told_of
exit_before_the_last_line = refl

-- `exit` ends this text alone; in 2023.01 it ends nothing, and in the modern shell it ends the run
an_exit : in_each (codes "exit; echo a") (codes "source; echo $?") ≡ (codes "0\n", End 0) ∷ (codes "a\n0\n", End 0) ∷ (codes "0\n", End 0) ∷ ([], End 0) ∷ []
unfolding told_of
an_exit = refl

exit_with_a_status : in_each (codes "exit 3") (codes "source; echo $?") ≡ (codes "3\n", End 0) ∷ (codes "1\n", End 0) ∷ (codes "3\n", End 0) ∷ ([], End 3) ∷ []
unfolding told_of
exit_with_a_status = refl

-- also in a compound command of the text that sources it
exit_in_an_if : in_each (codes "exit 3") (codes "if true; then source; echo $?; fi") ≡ (codes "3\n", End 0) ∷ (codes "1\n", End 0) ∷ (codes "3\n", End 0) ∷ ([], End 3) ∷ []
unfolding told_of
exit_in_an_if = refl

-- also in a text that `run` starts; and one in a compound command of the file leaves that command in the modern shell
exit_in_a_run : in_each (codes "exit 3") (codes "setenv u source \\; echo c; run u; echo $?") ≡ (codes "c\n0\n", End 0) ∷ (codes "c\n0\n", End 0) ∷ (codes "c\n0\n", End 0) ∷ ([], End 3) ∷ []
unfolding told_of
exit_in_a_run = refl

exit_in_its_if : in_each (codes "if true; then exit; fi; echo b") (codes "source; echo $?") ≡ (codes "0\n", End 0) ∷ (codes "b\n0\n", End 0) ∷ (codes "0\n", End 0) ∷ (codes "b\n0\n", End 0) ∷ []
unfolding told_of
exit_in_its_if = refl

-- a text that is no script. The old shells read it a line at a time: without a newline they find that its end is missing, and what they
-- do after a fault is not followed
no_script : in_each (codes "echo a; if true; then echo b") (codes "source; echo $?") ≡ ([], Syntax (codes "boot.scr")) ∷ (codes "1\n", End 0) ∷ (codes "1\n", End 0) ∷ (codes "1\n", End 0) ∷ []
unfolding told_of
no_script = refl

panic : in_each (codes "echo a; fi") (codes "source; echo $?") ≡ ([], Syntax (codes "boot.scr")) ∷ ([], Unsupported (codes "boot.scr")) ∷ ([], Unsupported (codes "boot.scr")) ∷ ([], Panic (codes "boot.scr")) ∷ []
unfolding told_of
panic = refl

fault_behind_a_line : in_each (codes "echo a\nif") (codes "source; echo $?") ≡ ([], Syntax (codes "boot.scr")) ∷ ([], Unsupported (codes "boot.scr")) ∷ ([], Unsupported (codes "boot.scr")) ∷ (codes "1\n", End 0) ∷ []
unfolding told_of
fault_behind_a_line = refl

no_script_listed : listed (sourcing source (codes "fi") (codes "source")) z None ≡ codes "run 0\ndev 0 source\nunset z\nstop syntax boot.scr\nrun 1\ndev 1 source\nunset z\nend 1\ndone\n"
unfolding listed_along ends_along
no_script_listed = along 1 (sourcing source (codes "fi") (codes "source")) z None _ refl refl

-- a text that sources itself is bounded by its steps
itself : in_each (codes "echo a; source") (codes "source") ≡ replicate 4 (codes "a\na\na\na\na\na\n", CutSteps)
unfolding told_of
itself = refl
