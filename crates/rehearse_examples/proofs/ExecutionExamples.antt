-- Each rule of execution on its own, computed: what the text of `bootcmd` writes, and how its run ends.
use Rattle.std.proofs.Common.{◌≡◌, ℕ, [], ◌∷◌, None, codes, refl, map}
use Rattle.rehearse_terms.specs.State.{Text, Variables}
use Rattle.rehearse_rules.specs.Execution.{End, CutSteps, Unknown, Syntax, Size}
use Rattle.rehearse_rules.proofs.ExampleRehearsals.{only_load, limits, bootcmd, bootcmd_among, listed, Told, told_of, told, told_with, told_within, write, letters}

-- `&&` and `||` have the same rank, and a skipped command leaves the status as it is
joined_commands : map told (codes "true || echo a && echo b" ∷ codes "false && echo a || echo b" ∷ codes "false && echo a; echo $?" ∷ codes "false || false || echo a" ∷ []) ≡ write (codes "b\n" ∷ codes "b\n" ∷ codes "1\n" ∷ codes "a\n" ∷ [])
unfolding told_of
joined_commands = refl

-- the first condition that holds decides; if no block is run, the status is 0
conditions : map told (codes "if false; then echo a; fi; echo $?" ∷ codes "if false; then echo a; elif false; then echo b; fi; echo $?" ∷ codes "if true; then echo a; elif true; then echo b; else echo c; fi" ∷ codes "if false; then echo a; else echo c; fi" ∷ codes "if true; then false; fi; echo $?" ∷ codes "if false; true; then echo a; fi" ∷ []) ≡ write (codes "0\n" ∷ codes "0\n" ∷ codes "a\n" ∷ codes "c\n" ∷ codes "1\n" ∷ codes "a\n" ∷ [])
unfolding told_of
conditions = refl

-- a loop has the status of its last body, or 0
loops : map told (codes "while false; do echo a; done; echo $?" ∷ codes "until true; do echo a; done; echo $?" ∷ codes "until test $x = 2; do x=2; false; done; echo $?" ∷ codes "x=1; while test $x = 1; do x=2; echo a; done; echo $?" ∷ []) ≡ write (codes "0\n" ∷ codes "0\n" ∷ codes "1\n" ∷ codes "a\n0\n" ∷ [])
unfolding told_of
loops = refl

-- a `for` sets its variable to each field, and has the status of the last body, or 0
for_loops : map told (codes "for i in a b; do echo $i; done; echo $i" ∷ codes "for i in a; do false; done; echo $?" ∷ codes "false; for i in; do false; done; echo $?" ∷ codes "false; for i in $u; do echo a; done; echo $?" ∷ codes "for i in 'a b' c; do echo \"$i\"; done" ∷ []) ≡ write (codes "a\nb\nb\n" ∷ codes "1\n" ∷ codes "0\n" ∷ codes "0\n" ∷ codes "a b\nc\n" ∷ [])
unfolding told_of
for_loops = refl

-- the first body of a `for` sees the status before it
status_in_a_for : told (codes "false; for i in a; do echo $?; done") ≡ (codes "1\n", End 0)
unfolding told_of
status_in_a_for = refl

-- its variable is a shell variable, and so is the one of an assignment: neither is listed
shell_variables : listed (bootcmd (limits only_load 0 10000) (codes "for i in a; do echo $i; done; x=1")) (codes "i" ∷ codes "x" ∷ []) None ≡ codes "run .\ntext a\\n\nunset i\nunset x\nend 0\ndone\n"
unfolding listed
shell_variables = refl

-- a `for` and each of its commands is a step, and so is each assignment
steps_of_for : map (λ n. told_within n (codes "for i in a b; do echo $i; done; x=1")) (0 ∷ 1 ∷ 2 ∷ 3 ∷ 4 ∷ []) ≡ ([], CutSteps) ∷ ([], CutSteps) ∷ (codes "a\n", CutSteps) ∷ (codes "a\nb\n", CutSteps) ∷ (codes "a\nb\n", End 0) ∷ []
unfolding told_of
steps_of_for = refl

-- assignments go from the left, and a step is begun before its words are expanded
assignments : map told (codes "x=1 y=$x$x; echo $y" ∷ codes "false; x=$?; echo $x$?" ∷ codes "x='a  b'; echo $x \"$x\"" ∷ codes "x=; echo a$x" ∷ codes "v=s; setenv v e; echo $v" ∷ codes "v=s; setenv v e; setenv v; echo $v" ∷ []) ≡ write (codes "11\n" ∷ codes "10\n" ∷ codes "a b a  b\n" ∷ codes "a\n" ∷ codes "e\n" ∷ codes "s\n" ∷ [])
unfolding told_of
assignments = refl

-- an assignment to a name of the environment changes only the shell variable, which is not seen
hidden_variable : told_with ((codes "a", codes "1") ∷ []) (codes "a=2; echo $a") ≡ (codes "1\n", End 0)
unfolding told_of
hidden_variable = refl

-- words that expand to nothing
no_field : map told (codes "false; $u; echo $?" ∷ codes "false; $u $u; echo $?" ∷ []) ≡ write (codes "0\n" ∷ codes "0\n" ∷ [])
unfolding told_of
no_field = refl

-- `setenv`: bad names, deletion, the empty value, words joined by one space
setenv_names : map told (codes "setenv; echo $?" ∷ codes "setenv '' a; echo $?" ∷ codes "setenv -a b; echo $?" ∷ codes "setenv a=b c; echo $?" ∷ codes "setenv a=; echo $?" ∷ codes "false; setenv u; echo $?" ∷ codes "setenv a b '' 'c  d' e; echo \"$a\"" ∷ []) ≡ write (codes "1\n" ∷ codes "1\n" ∷ codes "1\n" ∷ codes "1\n" ∷ codes "1\n" ∷ codes "0\n" ∷ codes "b  c  d e\n" ∷ [])
unfolding told_of
setenv_names = refl

-- all variables are listed in byte order of the names, an empty one too; one set twice is listed once, and a deleted
-- one is not
variables_in_order : listed (bootcmd_among (limits only_load 0 10000) ((codes "b", codes "0") ∷ []) (codes "setenv c 1; setenv a 1; setenv B ''; setenv b; setenv aa 3; setenv a 2")) [] None ≡ codes "run .\nvar B=\nvar a=2\nvar aa=3\nvar c=1\nend 0\ndone\n"
unfolding listed
variables_in_order = refl

-- `run`: no name, a name that is not set, texts that end with another status, and texts without a command
abbrev texts : Variables
texts = (codes "c", codes "# a comment") ∷ (codes "e", []) ∷ (codes "f", codes "echo f; false") ∷ (codes "s", codes "setenv s echo b; echo a; run s") ∷ (codes "t", codes "echo t") ∷ (codes "x", codes "exit; echo x") ∷ []

run_texts : map (told_with texts) (codes "run; echo $?" ∷ codes "run u t; echo $?" ∷ codes "run t u; echo $?" ∷ codes "run f t; echo $?" ∷ codes "run t f; echo $?" ∷ codes "run x t; echo $?" ∷ codes "false; run e; echo $?" ∷ codes "false; run c; echo $?" ∷ codes "run s; echo $?" ∷ codes "run $n t" ∷ []) ≡ write (codes "1\n" ∷ codes "1\n" ∷ codes "t\n1\n" ∷ codes "f\n1\n" ∷ codes "t\nf\n1\n" ∷ codes "t\n0\n" ∷ codes "0\n" ∷ codes "0\n" ∷ codes "a\nb\n0\n" ∷ codes "t\n" ∷ [])
unfolding told_of
run_texts = refl

-- a text that is not a script is read, and stops the run, only when its turn comes
stopped_in_run : map (told_with ((codes "a b", codes "fi") ∷ (codes "f", codes "false") ∷ (codes "t", codes "echo t") ∷ [])) (codes "run t 'a b' t" ∷ codes "run f 'a b'" ∷ []) ≡ (codes "t\n", Syntax (codes "a b")) ∷ ([], End 1) ∷ []
unfolding told_of
stopped_in_run = refl

-- `echo`
echoes : map told (codes "echo" ∷ codes "echo -n" ∷ codes "echo -n a  b; echo c" ∷ codes "echo a -n" ∷ codes "echo '' a" ∷ []) ≡ write (codes "\n" ∷ [] ∷ codes "a bc\n" ∷ codes "a -n\n" ∷ codes " a\n" ∷ [])
unfolding told_of
echoes = refl

-- without a newline its status is 0 too
status_of_echo : told (codes "false; echo -n a; echo $?") ≡ (codes "a0\n", End 0)
unfolding told_of
status_of_echo = refl

-- `exit`: numbers up to 255, negative ones as 0, and what ends nothing
exits : map told (codes "exit; echo a" ∷ codes "exit 7; echo a" ∷ codes "exit 255" ∷ codes "exit 007" ∷ codes "exit -5; echo a" ∷ codes "exit 256; echo $?" ∷ codes "exit 1 2; echo $?" ∷ codes "exit a; echo $?" ∷ codes "exit ''; echo $?" ∷ codes "exit -; echo $?" ∷ codes "exit -a; echo $?" ∷ codes "false; exit" ∷ []) ≡ ([], End 0) ∷ ([], End 7) ∷ ([], End 255) ∷ ([], End 7) ∷ ([], End 0) ∷ (codes "1\n", End 0) ∷ (codes "1\n", End 0) ∷ (codes "1\n", End 0) ∷ (codes "1\n", End 0) ∷ (codes "1\n", End 0) ∷ (codes "1\n", End 0) ∷ ([], End 0) ∷ []
unfolding told_of
exits = refl

-- `true` and `false` ignore further words; `test -e` asks only with exactly four words
other_commands : map told (codes "true a; echo $?" ∷ codes "false a; echo $?" ∷ codes "test; echo $?" ∷ codes "test -e a; echo $?" ∷ codes "test -e a b c d; echo $?" ∷ codes "test a = b c; echo $?" ∷ []) ≡ write (codes "0\n" ∷ codes "1\n" ∷ codes "1\n" ∷ codes "1\n" ∷ codes "1\n" ∷ codes "1\n" ∷ [])
unfolding told_of
other_commands = refl

-- four words the first of which only starts like `-e` ask no device
test_without_a_device : told (codes "test -eq a b c; echo $?") ≡ (codes "1\n", End 0)
unfolding told_of
test_without_a_device = refl

-- a name that is neither built in nor listed ends the run, whatever its words are, before or after other commands
unknown_names : map told (codes "echo a; 'a b' c; echo d" ∷ codes "''" ∷ codes "loads" ∷ []) ≡ (codes "a\n", Unknown (codes "a b")) ∷ ([], Unknown []) ∷ ([], Unknown (codes "loads")) ∷ []
unfolding told_of
unknown_names = refl

-- 65,536 bytes of words are not too many, and one byte more is: for a command with its name, for a `for` the words
-- after `in`, for an assignment the value
abbrev with_letters : ℕ → Text → Told
with_letters n text = told_with ((codes "l", letters n) ∷ []) text

size_limit : with_letters 65532 (codes "true $l") ∷ with_letters 65533 (codes "true $l") ∷ with_letters 65536 (codes "x=$l") ∷ with_letters 65536 (codes "x=a$l") ∷ with_letters 65536 (codes "for i in $l; do true; done") ∷ with_letters 65536 (codes "for i in a $l; do true; done") ∷ [] ≡ ([], End 0) ∷ ([], Size) ∷ ([], End 0) ∷ ([], Size) ∷ ([], End 0) ∷ ([], Size) ∷ []
unfolding told_of
size_limit = refl
