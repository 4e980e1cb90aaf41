-- The examples of docs/RUNNING.md, computed, in its order: what the text of `bootcmd` writes, and how its runs end.
use Rattle.std.proofs.Common.{◌≡◌, ℕ, false, [], ◌∷◌, None, Some, codes, refl, map}
use Rattle.rehearse_terms.specs.Outcomes.{Success, Failure}
use Rattle.rehearse_terms.specs.State.{Text, Variables}
use Rattle.device_list.specs.DeviceList.{Devices}
use Rattle.rehearse_rules.specs.Execution.{End, CutSteps, Unknown, Syntax, Size}
use Rattle.rehearse_rules.specs.Runs.{Task}
use Rattle.rehearse_rules.proofs.ExampleRehearsals.{Told, only_load, limits, bootcmd, bootcmd_among, z, listed, listed_after, told_of, told, told_with, told_within, write}

abbrev listing_with : ℕ → Text → Text
listing_with devices text = listed (bootcmd (limits only_load devices 10000) text) z None

-- ---- what a run has

at_the_start : told (codes "echo $?") ≡ (codes "0\n", End 0)
unfolding told_of
at_the_start = refl

step_bounds : told_within 1 (codes "true; true") ∷ told_within 2 (codes "true; true") ∷ told_within 5 (codes "while true; do true; done") ∷ [] ≡ ([], CutSteps) ∷ ([], End 0) ∷ ([], CutSteps) ∷ []
unfolding told_of
step_bounds = refl

doubled : told (codes "x=0123456789abcdef; while true; do x=$x$x; done") ≡ ([], Size)
unfolding told_of
doubled = refl

-- ---- commands

assignments : map told (codes "x=1 y=$x; echo $y" ∷ codes "false; x=1; echo $?" ∷ []) ≡ write (codes "1\n" ∷ codes "0\n" ∷ [])
unfolding told_of
assignments = refl

simple_commands : map told (codes "false; $z; echo $?" ∷ codes "foo; load" ∷ []) ≡ (codes "0\n", End 0) ∷ ([], Unknown (codes "foo")) ∷ []
unfolding told_of
simple_commands = refl

device_command : listing_with 2 (codes "load a b; echo $?") ≡ codes "run 0\ndev 0 load a b\ntext 0\\n\nunset z\nend 0\nrun 1\ndev 1 load a b\ntext 1\\n\nunset z\nend 0\ndone\n"
unfolding listed
device_command = refl

no_device_command : listing_with 0 (codes "load") ≡ codes "run .\nunset z\ncut devices\ndone\n"
unfolding listed
no_device_command = refl

one_device_command : listing_with 1 (codes "load") ≡ codes "run 0\ndev 0 load\nunset z\nend 0\nrun 1\ndev 1 load\nunset z\nend 1\ndone\n"
unfolding listed
one_device_command = refl

loop_of_loads : listing_with 2 (codes "while load; do true; done") ≡ codes "run 00\ndev 0 load\ndev 0 load\nunset z\ncut devices\nrun 01\ndev 0 load\ndev 1 load\nunset z\nend 0\nrun 1\ndev 1 load\nunset z\nend 0\ndone\n"
unfolding listed
loop_of_loads = refl

joined_commands : map told (codes "false || true && echo a" ∷ codes "true || echo a && echo b" ∷ codes "false && true; echo $?" ∷ []) ≡ write (codes "a\n" ∷ codes "b\n" ∷ codes "1\n" ∷ [])
unfolding told_of
joined_commands = refl

lists : map told (codes "false; echo a" ∷ codes "# nothing" ∷ []) ≡ write (codes "a\n" ∷ [] ∷ [])
unfolding told_of
lists = refl

conditions : map told (codes "if false; then echo a; elif true; then echo b; else echo c; fi" ∷ codes "if false; then echo a; fi; echo $?" ∷ []) ≡ write (codes "b\n" ∷ codes "0\n" ∷ [])
unfolding told_of
conditions = refl

until_loads : listing_with 2 (codes "until load; do echo n; done") ≡ codes "run 0\ndev 0 load\nunset z\nend 0\nrun 10\ndev 1 load\ndev 0 load\ntext n\\n\nunset z\nend 0\nrun 11\ndev 1 load\ndev 1 load\ntext n\\nn\\n\nunset z\ncut devices\ndone\n"
unfolding listed
until_loads = refl

loops : map told (codes "while false; do true; done; echo $?" ∷ codes "for i in a b; do echo $i; done" ∷ codes "false; for i in; do true; done; echo $?" ∷ []) ≡ write (codes "0\n" ∷ codes "a\nb\n" ∷ codes "0\n" ∷ [])
unfolding told_of
loops = refl

-- ---- built-in commands

setenv_writes : map told (codes "setenv a 1  2; echo \"$a\"" ∷ codes "setenv a; echo $?" ∷ codes "setenv a=b 1; echo $?" ∷ []) ≡ write (codes "1 2\n" ∷ codes "0\n" ∷ codes "1\n" ∷ [])
unfolding told_of
setenv_writes = refl

setenv_empty : listed (bootcmd (limits only_load 0 10000) (codes "setenv a ''")) (codes "a" ∷ []) None ≡ codes "run .\nvar a=\nend 0\ndone\n"
unfolding listed
setenv_empty = refl

run_in_turn : listed (bootcmd_among (limits only_load 2 10000) ((codes "a", codes "load") ∷ (codes "b", codes "echo b") ∷ []) (codes "run a b; echo $?")) z None ≡ codes "run 0\ndev 0 load\ntext b\\n0\\n\nunset z\nend 0\nrun 1\ndev 1 load\ntext 1\\n\nunset z\nend 0\ndone\n"
unfolding listed
run_in_turn = refl

run_others : told (codes "run q; echo $?") ∷ told_with ((codes "t", codes "if true; then") ∷ []) (codes "run t") ∷ told (codes "setenv bootcmd; echo a") ∷ [] ≡ (codes "1\n", End 0) ∷ ([], Syntax (codes "t")) ∷ (codes "a\n", End 0) ∷ []
unfolding told_of
run_others = refl

echoes : map told (codes "echo a  b; echo -n c" ∷ codes "false true; echo $?" ∷ []) ≡ write (codes "a b\nc" ∷ codes "1\n" ∷ [])
unfolding told_of
echoes = refl

exits : map told (codes "exit 7; echo a" ∷ codes "exit -1" ∷ codes "exit 300; echo $?" ∷ []) ≡ ([], End 7) ∷ ([], End 0) ∷ (codes "1\n", End 0) ∷ []
unfolding told_of
exits = refl

exit_in_run : listed (bootcmd_among (limits only_load 2 10000) ((codes "t", codes "load; exit 3; load") ∷ []) (codes "run t; echo $?")) z None ≡ codes "run 0\ndev 0 load\ntext 3\\n\nunset z\nend 0\nrun 1\ndev 1 load\ntext 3\\n\nunset z\nend 0\ndone\n"
unfolding listed
exit_in_run = refl

-- ---- `test` as a device command, and words in a listing

asked_test : listing_with 2 (codes "test -e mmc 0:1 /a") ≡ codes "run 0\ndev 0 test -e mmc 0:1 /a\nunset z\nend 0\nrun 1\ndev 1 test -e mmc 0:1 /a\nunset z\nend 1\ndone\n"
unfolding listed
asked_test = refl

words_of_a_command : listing_with 1 (codes "load 'a b' '' \\\\") ≡ codes "run 0\ndev 0 load a\\x20b \\e \\\\\nunset z\nend 0\nrun 1\ndev 1 load a\\x20b \\e \\\\\nunset z\nend 1\ndone\n"
unfolding listed
words_of_a_command = refl

-- ---- computed commands

abbrev known_three : Devices
known_three = record { commands = []; subs = []; calls = []; known = codes "env" ∷ codes "itest" ∷ codes "setexpr" ∷ []; test_stays = false; choices = []; files = [] }

abbrev told_known : Variables → Text → Told
told_known variables text = told_of (bootcmd_among (limits known_three 0 10000) variables text)

env_calls : told_known ((codes "a", codes "1") ∷ []) (codes "env exists a; echo $?") ∷ map (told_known []) (codes "x=1; env exists x; echo $?" ∷ codes "env set -f a 1 2; echo $a" ∷ codes "env default -a" ∷ []) ≡ (codes "0\n", End 0) ∷ (codes "1\n", End 0) ∷ (codes "1 2\n", End 0) ∷ ([], Unknown (codes "env")) ∷ []
unfolding told_of
env_calls = refl

env_deletes : map (λ text. listed (bootcmd_among (limits known_three 0 10000) ((codes "b", codes "2") ∷ []) text) (codes "b" ∷ []) None) (codes "env delete a b; echo $?" ∷ codes "env delete -x b; echo $?" ∷ []) ≡ codes "run .\ntext 1\\n\nunset b\nend 0\ndone\n" ∷ codes "run .\ntext 1\\n\nvar b=2\nend 0\ndone\n" ∷ []
unfolding listed
env_deletes = refl

itest_calls : map (told_known []) (codes "itest 10 == 0x10; echo $?" ∷ codes "itest 9 -lt 10; echo $?" ∷ codes "itest ffffffff -gt 1; echo $?" ∷ codes "itest *1000 = 0; echo $?" ∷ []) ≡ write (codes "0\n" ∷ codes "0\n" ∷ codes "0\n" ∷ codes "1\n" ∷ [])
unfolding told_of
itest_calls = refl

setexpr_calls : map (told_known []) (codes "setexpr n 9 + 9; echo $n" ∷ codes "setexpr n 0 - 1; echo $n" ∷ codes "setexpr n $n + 1; echo $?" ∷ codes "setexpr n sub; echo $n" ∷ []) ≡ write (codes "12\n" ∷ codes "ffffffffffffffff\n" ∷ codes "1\n" ∷ codes "0\n" ∷ [])
unfolding told_of
setexpr_calls = refl

not_computed : map (told_known []) (codes "itest *1000 == 0" ∷ codes "setexpr n sub a b" ∷ codes "setexpr n 1 / 0" ∷ []) ≡ ([], Unknown (codes "itest")) ∷ ([], Unknown (codes "setexpr")) ∷ ([], Unknown (codes "setexpr")) ∷ []
unfolding told_of
not_computed = refl

-- ---- pages

abbrev two_loads : Task
two_loads = bootcmd (limits only_load 2 10000) (codes "load a || load b")

first_page : listed two_loads z (Some 1) ≡ codes "run 0\ndev 0 load a\nunset z\nend 0\nmore 0\n"
unfolding listed
first_page = refl

second_page : listed_after two_loads (Success ∷ []) z (Some 1) ≡ codes "run 10\ndev 1 load a\ndev 0 load b\nunset z\nend 0\nmore 10\n"
unfolding listed_after
second_page = refl

third_page : listed_after two_loads (Failure ∷ Success ∷ []) z (Some 1) ≡ codes "run 11\ndev 1 load a\ndev 1 load b\nunset z\nend 1\ndone\n"
unfolding listed_after
third_page = refl

last_page : listed_after two_loads (Failure ∷ Failure ∷ []) z (Some 1) ≡ codes "done\n"
unfolding listed_after
last_page = refl
