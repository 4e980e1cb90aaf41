-- Scripts at the edges of the rules, computed: loops and `exit`, odd words, texts in texts, settings, escaped bytes.
use Rattle.std.proofs.Common.{◌≡◌, ℕ, [], ◌∷◌, ◌++◌, None, Some, false, codes, refl, map}
use Rattle.device_list.specs.declared.finish.BoardEnd.TheVariants.{Boots}
use Rattle.rehearse_terms.specs.Outcomes.{Success}
use Rattle.rehearse_terms.specs.State.{Text}
use Rattle.device_list.specs.DeviceList.{Variable, Literal, Devices, only}
use Rattle.rehearse_rules.specs.Execution.{End, CutSteps, Syntax, Size}
use Rattle.rehearse_rules.specs.Runs.{Task}
use Rattle.rehearse_rules.proofs.ExampleRehearsals.{only_load, limits, bootcmd, bootcmd_among, z, listed, listed_after, Told, told_of, told, told_with, told_within, letters}

abbrev v : Text → Text → Text × Text
v name value = (name, value)

exit_in_the_body_of_a_loop : told_with ((codes "t", codes "exit 0") ∷ []) (codes "while run t; do echo b; exit 4; done; echo no") ≡ (codes "b\n", End 4)
unfolding told_of
exit_in_the_body_of_a_loop = refl

exit_with_the_variable_of_a_for : told_with ((codes "t", codes "test $i = 1") ∷ []) (codes "for i in 1 2 3; do run t || exit $i; done; echo x") ≡ ([], End 2)
unfolding told_of
exit_with_the_variable_of_a_for = refl

exit_of_a_word_goes_on : told (codes "for i in a b; do exit x; done; echo $?") ≡ (codes "1\n", End 0)
unfolding told_of
exit_of_a_word_goes_on = refl

text_read_when_its_turn_comes : told_with ((codes "a", codes "setenv b echo new") ∷ (codes "b", codes "echo old") ∷ []) (codes "run a b") ≡ (codes "new\n", End 0)
unfolding told_of
text_read_when_its_turn_comes = refl

text_that_deletes_itself_runs_on : told_with ((codes "t", codes "setenv t; echo $t; echo x") ∷ []) (codes "run t; run t; echo $?") ≡ (codes "\nx\n1\n", End 0)
unfolding told_of
text_that_deletes_itself_runs_on = refl

until_has_the_status_of_its_last_body : told (codes "x=1; until test $x -ge 3; do echo $?; x=$x; if test $x = 1; then x=2; else x=3; fi; done; echo $?") ≡ (codes "1\n1\n0\n", End 0)
unfolding told_of
until_has_the_status_of_its_last_body = refl

exit_in_a_later_condition : told (codes "false; if false; then true; elif exit 9; then true; fi") ≡ ([], End 9)
unfolding told_of
exit_in_a_later_condition = refl

exit_in_the_condition_of_a_loop : told (codes "while exit 5; do true; done; echo x") ≡ ([], End 5)
unfolding told_of
exit_in_the_condition_of_a_loop = refl

and_or_of_one_rank : map told (codes "true && false || true && echo a || echo b" ∷ codes "false || exit 3 && echo no" ∷ codes "true &&\n\necho a" ∷ codes "false && true || echo $?" ∷ []) ≡ (codes "a\n", End 0) ∷ ([], End 3) ∷ (codes "a\n", End 0) ∷ (codes "1\n", End 0) ∷ []
unfolding told_of
and_or_of_one_rank = refl

test_e_is_cut_by_the_device_bound : listed (bootcmd (limits only_load 0 10000) (codes "test -e a b c; echo x")) z None ≡ codes "run .\nunset z\ncut devices\ndone\n"
unfolding listed
test_e_is_cut_by_the_device_bound = refl

test_e_of_other_words : map told (codes "test -e a b; echo $?" ∷ codes "test -e = -e; echo $?" ∷ codes "test ! -e a b c; echo $?" ∷ codes "test -e mmc 0:1 /a -a a = a; echo $?" ∷ []) ≡ (codes "1\n", End 0) ∷ (codes "0\n", End 0) ∷ (codes "1\n", End 0) ∷ (codes "1\n", End 0) ∷ []
unfolding told_of
test_e_of_other_words = refl

test_e_before_a_comparison : listed (bootcmd (limits only_load 1 10000) (codes "test -e = -e -a")) z None ≡ codes "run 0\ndev 0 test -e = -e -a\nunset z\nend 0\nrun 1\ndev 1 test -e = -e -a\nunset z\nend 1\ndone\n"
unfolding listed
test_e_before_a_comparison = refl

abbrev going : Devices
going = only ((codes "go", record { ends = Some Boots; stays = false; always = None; needs = []; normal = false; runs = []; sets = (Variable (codes "v"), Literal (codes "1")) ∷ [] }) ∷ [])

boot_in_the_condition_of_a_loop : listed (bootcmd_among (limits going 1 10000) ((codes "bootcmd", codes "while run t; do echo n; done; echo z") ∷ (codes "t", codes "if go; then echo y; fi; false") ∷ []) (codes "while run t; do echo n; done; echo z")) (codes "v" ∷ []) None ≡ codes "run 0\ndev 0 go\nvar v=1\nbooted go\nrun 1\ndev 1 go\ntext z\\n\nunset v\nend 0\ndone\n"
unfolding listed
boot_in_the_condition_of_a_loop = refl

abbrev loads_a : Text → Devices
loads_a value = only ((codes "load", record { ends = None; stays = false; always = None; needs = []; normal = false; runs = []; sets = (Variable (codes "a"), Literal value) ∷ [] }) ∷ [])

settings_in_front_of_a_later_setenv : listed (bootcmd (limits (loads_a (codes "1")) 2 10000) (codes "setenv a 0; load; setenv a $a$a; load")) (codes "a" ∷ []) None ≡ codes "run 00\ndev 0 load\ndev 0 load\nvar a=1\nend 0\nrun 01\ndev 0 load\ndev 1 load\nvar a=11\nend 1\nrun 10\ndev 1 load\ndev 0 load\nvar a=1\nend 0\nrun 11\ndev 1 load\ndev 1 load\nvar a=00\nend 1\ndone\n"
unfolding listed
settings_in_front_of_a_later_setenv = refl

an_empty_setting : listed (bootcmd_among (limits (loads_a []) 1 10000) ((codes "a", codes "5") ∷ (codes "bootcmd", codes "load") ∷ []) (codes "load")) [] None ≡ codes "run 0\ndev 0 load\nvar a=\nvar bootcmd=load\nend 0\nrun 1\ndev 1 load\nvar a=5\nvar bootcmd=load\nend 1\ndone\n"
unfolding listed
an_empty_setting = refl

a_setting_of_the_running_text : listed (bootcmd (limits (only ((codes "load", record { ends = None; stays = false; always = None; needs = []; normal = false; runs = []; sets = (Variable (codes "bootcmd"), Literal (codes "fi")) ∷ [] }) ∷ [])) 1 10000) (codes "load; echo a; run bootcmd")) (codes "bootcmd" ∷ []) None ≡ codes "run 0\ndev 0 load\ntext a\\n\nvar bootcmd=fi\nstop syntax bootcmd\nrun 1\ndev 1 load\ntext a\\n\nvar bootcmd=load; echo a; run bootcmd\ncut devices\ndone\n"
unfolding listed
a_setting_of_the_running_text = refl

echo_of_odd_words : map told (codes "echo -n -n a" ∷ codes "echo \"-n\" a" ∷ codes "echo '' ''" ∷ codes "echo \"a  b\" c" ∷ codes "x='-n'; echo $x a" ∷ []) ≡ (codes "-n a", End 0) ∷ (codes "a", End 0) ∷ (codes " \n", End 0) ∷ (codes "a  b c\n", End 0) ∷ (codes "a", End 0) ∷ []
unfolding told_of
echo_of_odd_words = refl

exit_of_odd_words : map told (codes "exit -5 6; echo $?" ∷ codes "exit +5; echo $?" ∷ codes "exit 0000000000000000000255" ∷ codes "exit 99999999999999999999; echo $?" ∷ codes "exit -99999999999999999999999" ∷ codes "exit --5; echo $?" ∷ codes "exit 5x; echo $?" ∷ codes "false; exit $u" ∷ codes "exit \"$u\"; echo $?" ∷ codes "exit -5x; echo $?" ∷ []) ≡ (codes "1\n", End 0) ∷ (codes "1\n", End 0) ∷ ([], End 255) ∷ (codes "1\n", End 0) ∷ ([], End 0) ∷ (codes "1\n", End 0) ∷ (codes "1\n", End 0) ∷ ([], End 0) ∷ (codes "1\n", End 0) ∷ (codes "1\n", End 0) ∷ []
unfolding told_of
exit_of_odd_words = refl

-- a first word that only starts with `-n` is written
echo_of_a_word_behind_n : map told (codes "echo -nx" ∷ codes "echo -nx a" ∷ codes "echo -nn; echo $?" ∷ []) ≡ (codes "-nx\n", End 0) ∷ (codes "-nx a\n", End 0) ∷ (codes "-nn\n0\n", End 0) ∷ []
unfolding told_of
echo_of_a_word_behind_n = refl

unknown_empty_name : listed (bootcmd (limits only_load 0 10000) (codes "'' x")) z None ≡ codes "run .\nunset z\nstop unknown \\e\ndone\n"
unfolding listed
unknown_empty_name = refl

syntax_of_a_name_with_a_space : listed (bootcmd_among (limits only_load 0 10000) ((codes "a b", codes "fi") ∷ []) (codes "run 'a b'")) z None ≡ codes "run .\nunset z\nstop syntax a\\x20b\ndone\n"
unfolding listed
syntax_of_a_name_with_a_space = refl

-- every name in a listing is written as a word: of a command, of a text, of a variable that is set, and of one that is
-- not
abbrev odd : Text
odd = codes "a b\\" ++ 10 ∷ 255 ∷ []

unknown_odd_name : listed (bootcmd (limits only_load 0 10000) (codes "'" ++ odd ++ codes "' x")) z None ≡ codes "run .\nunset z\nstop unknown a\\x20b\\\\\\n\\xff\ndone\n"
unfolding listed
unknown_odd_name = refl

syntax_of_an_odd_name : listed (bootcmd_among (limits only_load 0 10000) ((odd, codes "fi") ∷ []) (codes "run '" ++ odd ++ codes "'")) z None ≡ codes "run .\nunset z\nstop syntax a\\x20b\\\\\\n\\xff\ndone\n"
unfolding listed
syntax_of_an_odd_name = refl

syntax_of_the_empty_name : listed (bootcmd_among (limits only_load 0 10000) (([], codes "fi") ∷ []) (codes "run ''")) z None ≡ codes "run .\nunset z\nstop syntax \\e\ndone\n"
unfolding listed
syntax_of_the_empty_name = refl

odd_names_asked : listed (bootcmd_among (limits only_load 0 10000) ((odd, odd) ∷ []) []) (odd ∷ (7 ∷ 0 ∷ odd) ∷ [] ∷ []) None ≡ codes "run .\nvar a\\x20b\\\\\\n\\xff=a b\\\\\\n\\xff\nunset \\x07\\x00a\\x20b\\\\\\n\\xff\nunset \\e\nend 0\ndone\n"
unfolding listed
odd_names_asked = refl

booted_odd_name : listed (bootcmd (limits (only ((odd, record { ends = Some Boots; stays = false; always = None; needs = []; normal = false; runs = []; sets = (Variable (odd), Literal (codes "1")) ∷ [] }) ∷ [])) 1 10000) (codes "'" ++ odd ++ codes "'")) (odd ∷ []) None ≡ codes "run 0\ndev 0 a\\x20b\\\\\\n\\xff\nvar a\\x20b\\\\\\n\\xff=1\nbooted a\\x20b\\\\\\n\\xff\nrun 1\ndev 1 a\\x20b\\\\\\n\\xff\nunset a\\x20b\\\\\\n\\xff\nend 1\ndone\n"
unfolding listed
booted_odd_name = refl

size_at_its_limit : told_with ((codes "l", letters 65536) ∷ []) (codes "nosuch $l") ∷ told_of (bootcmd_among (limits only_load 2 0) ((codes "l", letters 65537) ∷ []) (codes "true $l")) ∷ told_with ((codes "l", letters 65537) ∷ []) (codes "$l") ∷ told_with ((codes "l", letters 65536) ∷ []) (codes "x=$l y=$l; echo a") ∷ [] ≡ ([], Size) ∷ ([], CutSteps) ∷ ([], Size) ∷ (codes "a\n", End 0) ∷ []
unfolding told_of
size_at_its_limit = refl

environment_in_front_of_shell_variables : told_with ((codes "a", codes "9") ∷ []) (codes "a=1; for a in 2; do echo $a; done; setenv a; echo $a") ≡ (codes "9\n2\n", End 0)
unfolding told_of
environment_in_front_of_shell_variables = refl

fields_and_quotes : map told (codes "x='1 2'; for i in $x; do x=; echo $i; done" ∷ codes "x=' p  q '; setenv a $x; echo \"[$a]\"; setenv a \"$x\"; echo \"[$a]\"" ∷ codes "setenv $n v; echo $?; setenv \"$n\" v; echo $?" ∷ []) ≡ (codes "1\n2\n", End 0) ∷ (codes "[p q]\n[ p  q ]\n", End 0) ∷ (codes "0\n1\n", End 0) ∷ []
unfolding told_of
fields_and_quotes = refl

names_asked_twice_and_escaped : listed (bootcmd (limits only_load 0 10000) (codes "setenv 'a b' c; setenv '' c; setenv d ''")) (codes "z" ∷ codes "a b" ∷ codes "z" ∷ codes "d" ∷ []) None ≡ codes "run .\nunset z\nvar a\\x20b=c\nunset z\nvar d=\nend 0\ndone\n"
unfolding listed
names_asked_twice_and_escaped = refl

bytes_escaped : listed (bootcmd_among (limits only_load 1 10000) ((97 ∷ 10 ∷ [], 127 ∷ 31 ∷ 9 ∷ 32 ∷ 126 ∷ 255 ∷ []) ∷ []) (codes "load \"a\nb\" '\\' \"\t\"")) [] None ≡ codes "run 0\ndev 0 load a\\nb \\\\ \\x09\nvar a\\n=\\x7f\\x1f\\x09 ~\\xff\nend 0\nrun 1\ndev 1 load a\\nb \\\\ \\x09\nvar a\\n=\\x7f\\x1f\\x09 ~\\xff\nend 1\ndone\n"
unfolding listed
bytes_escaped = refl

abbrev two : Task
two = bootcmd (limits only_load 2 10000) (codes "load a || load b")

limit_behind_a_word : listed_after two (Success ∷ []) z (Some 2) ≡ codes "run 10\ndev 1 load a\ndev 0 load b\nunset z\nend 0\nrun 11\ndev 1 load a\ndev 1 load b\nunset z\nend 1\ndone\n"
unfolding listed_after
limit_behind_a_word = refl

limit_in_front_of_the_last : listed two z (Some 2) ≡ codes "run 0\ndev 0 load a\nunset z\nend 0\nrun 10\ndev 1 load a\ndev 0 load b\nunset z\nend 0\nmore 10\n"
unfolding listed
limit_in_front_of_the_last = refl

abbrev stepped : ℕ → Told
stepped n = told_of (bootcmd_among (limits only_load 2 n) ((codes "t", codes "true; x=1 y=2; echo $y") ∷ []) (codes "for i in a; do run t; done"))

steps_of_a_for : map stepped (2 ∷ 3 ∷ 4 ∷ 5 ∷ []) ≡ ([], CutSteps) ∷ ([], CutSteps) ∷ ([], CutSteps) ∷ (codes "2\n", End 0) ∷ []
unfolding told_of
steps_of_a_for = refl

texts_and_words_of_nothing : told_with ((codes "e", codes ";\n # x\n;") ∷ []) (codes "false; run e; echo $?") ∷ told_with ((codes "t", codes "x=5") ∷ []) (codes "run t; echo $x") ∷ told_within 1 (codes "$u; true") ∷ told_within 1 (codes "$u") ∷ told_within 0 (codes "# c") ∷ told_within 0 (codes "$u") ∷ [] ≡ (codes "0\n", End 0) ∷ (codes "5\n", End 0) ∷ ([], CutSteps) ∷ ([], End 0) ∷ ([], End 0) ∷ ([], CutSteps) ∷ []
unfolding told_of
texts_and_words_of_nothing = refl

cut_in_a_condition : listed (bootcmd (limits only_load 1 10000) (codes "if load && load; then echo a; else echo b; fi")) z None ≡ codes "run 0\ndev 0 load\nunset z\ncut devices\nrun 1\ndev 1 load\ntext b\\n\nunset z\nend 0\ndone\n"
unfolding listed
cut_in_a_condition = refl

texts_in_texts : told_with ((codes "a", codes "run b; echo $?; exit 6") ∷ (codes "b", codes "exit 5") ∷ []) (codes "run a; echo $?") ∷ told_with ((codes "a", codes "run b; echo x") ∷ (codes "b", codes "fi") ∷ []) (codes "run a || echo y") ∷ [] ≡ (codes "5\n6\n", End 0) ∷ ([], Syntax (codes "b")) ∷ []
unfolding told_of
texts_in_texts = refl

-- nested loops, `exit` of a text inside the condition of the inner one
exit_of_a_text_in_loops : told_with ((codes "t", codes "for j in 1 2; do while true; do exit $j; done; done") ∷ []) (codes "for i in a b; do until run t; do echo $?; exit 8; done; done") ≡ (codes "1\n", End 8)
unfolding told_of
exit_of_a_text_in_loops = refl

-- a final command after a bound is cut; a final command in a `for` inside `run` ends everything
boot_in_a_for_in_a_text : listed (bootcmd_among (limits going 1 10000) ((codes "bootcmd", codes "run t t") ∷ (codes "t", codes "for i in 1 2; do go $i; done") ∷ []) (codes "run t t")) z None ≡ codes "run 0\ndev 0 go 1\nunset z\nbooted go\nrun 1\ndev 1 go 1\nunset z\ncut devices\ndone\n"
unfolding listed
boot_in_a_for_in_a_text = refl

-- the values of settings are not expanded, so `$` stays; a setting is no step
settings_are_not_expanded : listed (bootcmd (limits (loads_a (codes "$x;")) 1 2) (codes "load; echo $a")) (codes "a" ∷ []) None ≡ codes "run 0\ndev 0 load\ntext $x;\\n\nvar a=$x;\nend 0\nrun 1\ndev 1 load\ntext \\n\nunset a\nend 0\ndone\n"
unfolding listed
settings_are_not_expanded = refl

-- `elif` chains: the status that the `else` body sees; `while` in a condition
statuses_of_conditions : map told (codes "if false; then true; else echo $?; fi" ∷ codes "if while false; do true; done; then echo $?; fi" ∷ codes "while if test $x; then true; fi; do echo l; exit 2; done" ∷ codes "for i in a; do false; done || echo or" ∷ codes "until true; do false; done && echo and" ∷ []) ≡ (codes "1\n", End 0) ∷ (codes "0\n", End 0) ∷ (codes "l\n", End 2) ∷ (codes "or\n", End 0) ∷ (codes "and\n", End 0) ∷ []
unfolding told_of
statuses_of_conditions = refl

-- `run` reads only the environment; `run ''`; `run` with a name made by expansion
run_reads_the_environment_alone : map told (codes "t='echo x'; run t; echo $?" ∷ codes "run ''; echo $?" ∷ codes "setenv t echo x; n=t; run $n $n" ∷ codes "setenv t 'echo $?'; false; run t; true || run t" ∷ []) ≡ (codes "1\n", End 0) ∷ (codes "1\n", End 0) ∷ (codes "x\nx\n", End 0) ∷ (codes "1\n", End 0) ∷ []
unfolding told_of
run_reads_the_environment_alone = refl

-- `setenv`: names with unusual bytes, a dash inside a name, deletion inside loops over fields
setenv_of_odd_names : told (codes "setenv a-b 1; echo $?; setenv - 1; echo $?; setenv = ; echo $?; setenv 'x=' ; echo $?; setenv ''; echo $?") ≡ (codes "0\n1\n1\n1\n1\n", End 0)
unfolding told_of
setenv_of_odd_names = refl
