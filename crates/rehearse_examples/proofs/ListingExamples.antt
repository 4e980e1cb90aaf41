-- Worked examples, computed: each from the text of `bootcmd` to the whole listing. An example that names no bounds has
-- the usual ones: 16 device commands and 10,000 steps.
use Rattle.std.proofs.Common.{ℕ, [], ◌∷◌, ◌++◌, Some, None, codes, refl, ◌≡◌, map}
use Rattle.std.specs.Fmt.{digits}
use Rattle.hushlang.specs.Expansion.{fields, joined, atoms}
use Rattle.rehearse_terms.specs.Outcomes.{Success, Failure, Run, Short, Long}
use Rattle.hushlang.specs.Trees.{tree_of}
use Rattle.rehearse_terms.specs.State.{Text}
use Rattle.rehearse_rules.specs.Runs.{Task, task_of, kind, runs, work}
use Rattle.rehearse_rules.proofs.ExampleRehearsals.{only_load, limits, usual, cut_listing, bootcmd, bootcmd_among, z, listed, listed_after, works, ends_along, ends_behind, listed_along, listed_behind, works_along, along, behind, working}

-- ---- two attempts to load, and the status of the last: every variable is listed

abbrev two_attempts : ℕ → Task
two_attempts devices = bootcmd (limits only_load devices 10000) (codes "load a || load b; echo $?")

abbrev first_record : Text
first_record = codes "run 0\ndev 0 load a\ntext 0\\n\nvar bootcmd=load a || load b; echo $?\nend 0\n"

abbrev second_record : Text
second_record = codes "run 10\ndev 1 load a\ndev 0 load b\ntext 0\\n\nvar bootcmd=load a || load b; echo $?\nend 0\n"

abbrev third_record : Text
third_record = codes "run 11\ndev 1 load a\ndev 1 load b\ntext 1\\n\nvar bootcmd=load a || load b; echo $?\nend 0\n"

two_attempts_listed : listed (two_attempts 16) [] None ≡ first_record ++ (second_record ++ (third_record ++ codes "done\n"))
unfolding listed_along ends_along
two_attempts_listed = along 2 _ _ _ _ refl refl

-- the same with less room for device commands, so that all words can be tried
two_attempts_of_five : listed (two_attempts 5) [] None ≡ first_record ++ (second_record ++ (third_record ++ codes "done\n"))
unfolding listed
two_attempts_of_five = refl

-- a word that is too short, a run, and one that is too long, when 16 device commands may be asked
two_attempts_kinds : map (kind (two_attempts 16)) ((Failure ∷ []) ∷ (Failure ∷ Success ∷ []) ∷ (Failure ∷ Success ∷ Success ∷ []) ∷ []) ≡ Short ∷ Run ∷ Long ∷ []
unfolding tree_of fields joined atoms digits
two_attempts_kinds = refl

-- the work of the first run, of two, of all three
two_attempts_work : works (two_attempts 16) (0 ∷ 1 ∷ 2 ∷ 3 ∷ []) ≡ 0 ∷ 2 ∷ 4 ∷ 5 ∷ []
unfolding works_along ends_along
two_attempts_work = working 2 _ _ _ refl refl

-- and of the runs after the second
two_attempts_work_after : work (two_attempts 16) ((Failure ∷ Success ∷ []) ∷ []) ∷ work (two_attempts 16) ((Failure ∷ Success ∷ []) ∷ (Failure ∷ Failure ∷ []) ∷ []) ∷ [] ≡ 3 ∷ 4 ∷ []
unfolding tree_of fields joined atoms digits
two_attempts_work_after = refl

-- the runs after the second, and after the last
behind_the_second : listed_after (two_attempts 16) (Failure ∷ Success ∷ []) [] None ≡ third_record ++ codes "done\n"
unfolding listed_behind ends_behind
behind_the_second = behind 1 _ _ _ _ _ refl refl

behind_the_last : listed_after (two_attempts 16) (Failure ∷ Failure ∷ []) [] None ≡ codes "done\n"
unfolding listed_behind ends_behind
behind_the_last = behind 0 _ _ _ _ _ refl refl

-- a limit that leaves runs out, and one that does not
limit_of_one : listed (two_attempts 16) [] (Some 1) ≡ first_record ++ codes "more 0\n"
unfolding listed_along ends_along
limit_of_one = along 2 _ _ _ _ refl refl

limit_of_three : listed (two_attempts 16) [] (Some 3) ≡ first_record ++ (second_record ++ (third_record ++ codes "done\n"))
unfolding listed_along ends_along
limit_of_three = along 2 _ _ _ _ refl refl

-- page by page
second_page : listed_after (two_attempts 16) (Success ∷ []) [] (Some 1) ≡ second_record ++ codes "more 10\n"
unfolding listed_behind ends_behind
second_page = behind 2 _ _ _ _ _ refl refl

third_page : listed_after (two_attempts 16) (Failure ∷ Success ∷ []) [] (Some 1) ≡ third_record ++ codes "done\n"
unfolding listed_behind ends_behind
third_page = behind 1 _ _ _ _ _ refl refl

-- words that are not runs: too short, and the empty one
no_runs : map (kind (two_attempts 16)) ((Failure ∷ []) ∷ [] ∷ []) ≡ Short ∷ Short ∷ []
unfolding tree_of fields joined atoms digits
no_runs = refl

-- ---- bounds

abbrev loop_of_loads : Task
loop_of_loads = bootcmd (limits only_load 2 10000) (codes "while load; do true; done")

loop_of_loads_listed : listed loop_of_loads z None ≡ codes "run 00\ndev 0 load\ndev 0 load\nunset z\ncut devices\nrun 01\ndev 0 load\ndev 1 load\nunset z\nend 0\nrun 1\ndev 1 load\nunset z\nend 0\ndone\n"
unfolding listed
loop_of_loads_listed = refl

loop_of_loads_kinds : map (kind loop_of_loads) ((Success ∷ []) ∷ (Success ∷ Success ∷ []) ∷ (Success ∷ Success ∷ Success ∷ []) ∷ []) ≡ Short ∷ Run ∷ Long ∷ []
unfolding tree_of fields joined atoms digits
loop_of_loads_kinds = refl

loop_of_loads_work : works loop_of_loads (1 ∷ 2 ∷ 3 ∷ []) ≡ 5 ∷ 5 ∷ 5 ∷ []
unfolding works
loop_of_loads_work = refl

abbrev endless : ℕ → Task
endless steps = bootcmd (limits only_load 16 steps) (codes "while true; do true; done")

endless_loop : listed (endless 5) z None ≡ cut_listing
unfolding listed_along ends_along
endless_loop = along 0 _ _ _ _ refl refl

behind_the_empty_word : listed_after (endless 5) [] z None ≡ codes "done\n"
unfolding listed_behind ends_behind
behind_the_empty_word = behind 0 _ _ _ _ _ refl refl

endless_for : listed (bootcmd (limits only_load 16 4) (codes "while for x in; do true; done; do for y in; do true; done; done")) z None ≡ cut_listing
unfolding listed_along ends_along
endless_for = along 0 _ _ _ _ refl refl

abbrev runs_itself : ℕ → Task
runs_itself steps = bootcmd (limits only_load 16 steps) (codes "run bootcmd")

itself_run : listed (runs_itself 3) z None ≡ cut_listing
unfolding listed_along ends_along
itself_run = along 0 _ _ _ _ refl refl

abbrev run_in_turns : ℕ → Task
run_in_turns steps = bootcmd_among (limits only_load 16 steps) ((codes "a", codes "run b") ∷ (codes "b", codes "run a") ∷ (codes "bootcmd", codes "run a") ∷ []) (codes "run a")

run_in_turns_listed : listed (run_in_turns 9) z None ≡ cut_listing
unfolding listed_along ends_along
run_in_turns_listed = along 0 _ _ _ _ refl refl

empty_text : listed (bootcmd (limits only_load 16 0) []) z None ≡ codes "run .\nunset z\nend 0\ndone\n"
unfolding listed_along ends_along
empty_text = along 0 _ _ _ _ refl refl

abbrev one_load : ℕ → Task
one_load devices = bootcmd (limits only_load devices 10000) (codes "load")

no_device_allowed : listed (one_load 0) z None ≡ codes "run .\nunset z\ncut devices\ndone\n"
unfolding listed
no_device_allowed = refl

one_device_allowed : listed (one_load 1) z None ≡ codes "run 0\ndev 0 load\nunset z\nend 0\nrun 1\ndev 1 load\nunset z\nend 1\ndone\n"
unfolding listed
one_device_allowed = refl

no_device_kinds : map (kind (one_load 0)) ([] ∷ (Success ∷ []) ∷ []) ≡ Run ∷ Long ∷ []
unfolding tree_of fields joined atoms digits
no_device_kinds = refl

no_device_work : work (one_load 0) (runs (one_load 0)) ≡ 1
unfolding tree_of fields joined atoms digits
no_device_work = refl

abbrev two_steps : ℕ → Task
two_steps steps = bootcmd (limits only_load 16 steps) (codes "true; true")

second_step_cut : listed (two_steps 1) z None ≡ cut_listing
unfolding listed_along ends_along
second_step_cut = along 0 _ _ _ _ refl refl

steps_used_up : listed (two_steps 2) z None ≡ codes "run .\nunset z\nend 0\ndone\n"
unfolding listed_along ends_along
steps_used_up = along 0 _ _ _ _ refl refl

-- ---- variables and texts

-- `a` is asked for
shell_variable : listed (bootcmd usual (codes "x=1; load && setenv a $x; echo \"$a\"")) (codes "a" ∷ []) None ≡ codes "run 0\ndev 0 load\ntext 1\\n\nvar a=1\nend 0\nrun 1\ndev 1 load\ntext \\n\nunset a\nend 0\ndone\n"
unfolding listed_along ends_along
shell_variable = along 1 _ _ _ _ refl refl

-- an `exit` ends only the text of its variable
abbrev run_with_exit : Task
run_with_exit = bootcmd_among usual ((codes "bootcmd", codes "run t; echo $?") ∷ (codes "t", codes "load; exit 3; load") ∷ []) (codes "run t; echo $?")

exit_in_run : listed run_with_exit z None ≡ codes "run 0\ndev 0 load\ntext 3\\n\nunset z\nend 0\nrun 1\ndev 1 load\ntext 3\\n\nunset z\nend 0\ndone\n"
unfolding listed_along ends_along
exit_in_run = along 1 _ _ _ _ refl refl

abbrev exit_then_load : Task
exit_then_load = bootcmd_among usual ((codes "bootcmd", codes "run t; load") ∷ (codes "t", codes "exit 3; load") ∷ []) (codes "run t; load")

exit_then_load_kinds : map (kind exit_then_load) ([] ∷ (Success ∷ []) ∷ []) ≡ Short ∷ Run ∷ []
unfolding tree_of fields joined atoms digits
exit_then_load_kinds = refl

-- `x` is `a  b`
fields_of_echo : listed (bootcmd_among usual ((codes "bootcmd", codes "echo $x \"$x\" ''") ∷ (codes "x", codes "a  b") ∷ []) (codes "echo $x \"$x\" ''")) z None ≡ codes "run .\ntext a b a  b \\n\nunset z\nend 0\ndone\n"
unfolding listed_along ends_along
fields_of_echo = along 0 _ _ _ _ refl refl

-- `a` is `load`, and `b` is `echo b`
texts_in_turn : listed (bootcmd_among usual ((codes "a", codes "load") ∷ (codes "b", codes "echo b") ∷ (codes "bootcmd", codes "run a b; echo $?") ∷ []) (codes "run a b; echo $?")) z None ≡ codes "run 0\ndev 0 load\ntext b\\n0\\n\nunset z\nend 0\nrun 1\ndev 1 load\ntext 1\\n\nunset z\nend 0\ndone\n"
unfolding listed_along ends_along
texts_in_turn = along 1 _ _ _ _ refl refl

words_of_device : listed (bootcmd usual (codes "load 'a b' '' \\\\")) z None ≡ codes "run 0\ndev 0 load a\\x20b \\e \\\\\nunset z\nend 0\nrun 1\ndev 1 load a\\x20b \\e \\\\\nunset z\nend 1\ndone\n"
unfolding listed_along ends_along
words_of_device = along 1 _ _ _ _ refl refl

-- `t` is the letter a, a newline, a backslash and the byte 128; it is asked for twice
escaped_bytes : listed (bootcmd_among usual ((codes "bootcmd", codes "echo -n \"$t\"") ∷ (codes "t", 97 ∷ 10 ∷ 92 ∷ 128 ∷ []) ∷ []) (codes "echo -n \"$t\"")) (codes "t" ∷ codes "t" ∷ []) None ≡ codes "run .\ntext a\\n\\\\\\x80\nvar t=a\\n\\\\\\x80\nvar t=a\\n\\\\\\x80\nend 0\ndone\n"
unfolding listed_along ends_along
escaped_bytes = along 0 _ _ _ _ refl refl

not_set : task_of usual None [] (codes "q") ≡ None
not_set = refl

-- ---- conditions and loops

chained_test : listed (bootcmd usual (codes "test -n \"$x\" -a $x = 1; echo $?")) z None ≡ codes "run .\ntext 1\\n\nunset z\nend 0\ndone\n"
unfolding listed_along ends_along
chained_test = along 0 _ _ _ _ refl refl

equal_rank : listed (bootcmd usual (codes "test a = a -o a = b -a a = b; echo $?")) z None ≡ codes "run .\ntext 1\\n\nunset z\nend 0\ndone\n"
unfolding listed_along ends_along
equal_rank = along 0 _ _ _ _ refl refl

numbers : listed (bootcmd usual (codes "test 0x10 -eq 16 -a 010 -eq 8 -a -3 -lt 2z; echo $?")) z None ≡ codes "run .\ntext 0\\n\nunset z\nend 0\ndone\n"
unfolding listed_along ends_along
numbers = along 0 _ _ _ _ refl refl

arms : listed (bootcmd usual (codes "if test -e mmc 0:1 /a; then echo y; elif load x; then echo l; else exit 7; fi")) z None ≡ codes "run 0\ndev 0 test -e mmc 0:1 /a\ntext y\\n\nunset z\nend 0\nrun 10\ndev 1 test -e mmc 0:1 /a\ndev 0 load x\ntext l\\n\nunset z\nend 0\nrun 11\ndev 1 test -e mmc 0:1 /a\ndev 1 load x\nunset z\nend 7\ndone\n"
unfolding listed_along ends_along
arms = along 2 (bootcmd usual (codes "if test -e mmc 0:1 /a; then echo y; elif load x; then echo l; else exit 7; fi")) z None _ refl refl

until_loaded : listed (bootcmd (limits only_load 2 10000) (codes "until load; do echo n; done")) z None ≡ codes "run 0\ndev 0 load\nunset z\nend 0\nrun 10\ndev 1 load\ndev 0 load\ntext n\\n\nunset z\nend 0\nrun 11\ndev 1 load\ndev 1 load\ntext n\\nn\\n\nunset z\ncut devices\ndone\n"
unfolding listed
until_loaded = refl

-- ---- runs that are stopped

unknown_command : listed (bootcmd usual (codes "foo; load")) z None ≡ codes "run .\nunset z\nstop unknown foo\ndone\n"
unfolding listed_along ends_along
unknown_command = along 0 _ _ _ _ refl refl

no_script : listed (bootcmd usual (codes "if true; then")) z None ≡ codes "run .\nunset z\nstop syntax bootcmd\ndone\n"
unfolding listed_along ends_along
no_script = along 0 _ _ _ _ refl refl
