-- What the shells do otherwise, computed: each script by ubtool's own shell and by U-Boot's old one, which was asked.
use Rattle.std.proofs.Common.{◌≡◌, ℕ, List, [], ◌∷◌, ◌++◌, None, codes, refl, map, replicate}
use Rattle.std.specs.Prelude.{zip}
use Rattle.std.specs.List.{flat_map}
use Rattle.rehearse_terms.specs.State.{Text}
use Rattle.rehearse_terms.specs.declared.shell.Shell.{Shell}
use Rattle.rehearse_terms.specs.declared.shell.Shell.TheVariants.{Profile, Old2023, Old2025}
use Rattle.rehearse_rules.specs.Execution.{End, Syntax, Unknown, Unsupported}
use Rattle.rehearse_rules.proofs.ExampleRehearsals.{only_load, limits, bootcmd, bootcmd_among, z, listed, Told, told_of}

-- what a text writes and how it ends in each shell
abbrev in_shell : Text → Shell → Told
in_shell text shell = told_of (bootcmd (record (limits only_load 2 10000) { shell = shell }) text)

abbrev in_each : Text → List Told
in_each text = map (in_shell text) (Profile ∷ Old2023 ∷ Old2025 ∷ [])

skipped_and : in_each (codes "false && echo a || echo b; echo c") ≡ (codes "b\nc\n", End 0) ∷ (codes "c\n", End 0) ∷ (codes "c\n", End 0) ∷ []
unfolding told_of
skipped_and = refl

skipped_or : in_each (codes "true || echo a && echo b") ≡ (codes "b\n", End 0) ∷ ([], End 0) ∷ ([], End 0) ∷ []
unfolding told_of
skipped_or = refl

-- a skipped command keeps the status
skipped_status : in_each (codes "false && true || true") ≡ ([], End 0) ∷ ([], End 1) ∷ ([], End 1) ∷ []
unfolding told_of
skipped_status = refl

nothing_skipped : in_each (codes "true && true && echo a") ≡ (codes "a\n", End 0) ∷ (codes "a\n", End 0) ∷ (codes "a\n", End 0) ∷ []
unfolding told_of
nothing_skipped = refl

words_of_nothing : in_each (codes "false; $none; echo $?") ≡ (codes "0\n", End 0) ∷ (codes "1\n", End 0) ∷ (codes "1\n", End 0) ∷ []
unfolding told_of
words_of_nothing = refl

if_without_its_block : in_each (codes "if false; then true; elif false; then true; fi; echo $?") ≡ (codes "0\n", End 0) ∷ (codes "1\n", End 0) ∷ (codes "1\n", End 0) ∷ []
unfolding told_of
if_without_its_block = refl

while_that_ends : in_each (codes "while false; do true; done; echo $?") ≡ (codes "0\n", End 0) ∷ (codes "1\n", End 0) ∷ (codes "1\n", End 0) ∷ []
unfolding told_of
while_that_ends = refl

-- the condition decides, and not the last body
until_that_ends : in_each (codes "x=a; until test $x = b; do x=b; false; done; echo $?") ≡ (codes "1\n", End 0) ∷ (codes "0\n", End 0) ∷ (codes "0\n", End 0) ∷ []
unfolding told_of
until_that_ends = refl

each_turn_begins : in_each (codes "for i in a b; do echo $?; false; done") ≡ (codes "0\n1\n", End 1) ∷ (codes "0\n0\n", End 1) ∷ (codes "0\n0\n", End 1) ∷ []
unfolding told_of
each_turn_begins = refl

-- the runs of a list: the second command is skipped only if the first has failed
mixed_list : listed (bootcmd (record (limits only_load 2 10000) { shell = Old2023 }) (codes "load a && load b || echo c")) z None
    ≡ codes "run 00\ndev 0 load a\ndev 0 load b\nunset z\nend 0\nrun 01\ndev 0 load a\ndev 1 load b\ntext c\\n\nunset z\nend 0\nrun 1\ndev 1 load a\nunset z\nend 1\ndone\n"
unfolding listed
mixed_list = refl

-- a value that is read again: its quotes act, and so does `#` at the start of a word
quotes_of_a_value : in_each (codes "x='\"a  b\"'; echo $x") ≡ (codes "\"a b\"\n", End 0) ∷ (codes "a  b\n", End 0) ∷ (codes "a  b\n", End 0) ∷ []
unfolding told_of
quotes_of_a_value = refl

comment_in_a_value : in_each (codes "x='#a'; echo b $x c; echo 'd $x'") ≡ (codes "b #a c\nd $x\n", End 0) ∷ (codes "b\nd $x\n", End 0) ∷ (codes "b\nd $x\n", End 0) ∷ []
unfolding told_of
comment_in_a_value = refl

-- a single quote that is not closed: the command is not run, and the status stays
open_quote_in_a_value : in_each (codes "x=it\\'s; false; echo $x; echo $?") ≡ (codes "it's\n0\n", End 0) ∷ (codes "1\n", End 0) ∷ (codes "1\n", End 0) ∷ []
unfolding told_of
open_quote_in_a_value = refl

-- quoted words stay one, also if they are read again
quoted_value : in_each (codes "x='a  b'; echo \"$x\" $x") ≡ (codes "a  b a b\n", End 0) ∷ (codes "a  b a b\n", End 0) ∷ (codes "a  b a b\n", End 0) ∷ []
unfolding told_of
quoted_value = refl

-- among the words of a `for` they are cut at spaces, and their quotes stay
words_of_a_for : in_each (codes "x='a b'; for i in \"$x\" c; do echo $i; done") ≡ (codes "a b\nc\n", End 0) ∷ (codes "a\nb\nc\n", End 0) ∷ (codes "a\nb\nc\n", End 0) ∷ []
unfolding told_of
words_of_a_for = refl

-- words of `test` that no term takes hold in U-Boot, and so does a comparison that lacks its left side
unset_in_a_test : in_each (codes "test $none = v; echo $?") ≡ (codes "1\n", End 0) ∷ (codes "0\n", End 0) ∷ (codes "0\n", End 0) ∷ []
unfolding told_of
unset_in_a_test = refl

words_left_in_a_test : in_each (codes "test a = b c; echo $?") ≡ (codes "1\n", End 0) ∷ (codes "0\n", End 0) ∷ (codes "0\n", End 0) ∷ []
unfolding told_of
words_left_in_a_test = refl

no_term_in_a_test : in_each (codes "test a; echo $?; test a = a; echo $?") ≡ (codes "1\n0\n", End 0) ∷ (codes "1\n0\n", End 0) ∷ (codes "1\n0\n", End 0) ∷ []
unfolding told_of
no_term_in_a_test = refl

-- a file among other words of `test` is asked for, and the status says whether the words hold
file_among_words : listed (bootcmd (record (limits only_load 2 10000) { shell = Old2023 }) (codes "test ! -e mmc 0:1 /a && test -n a -a -e mmc 0 b; echo $?")) z None
    ≡ codes "run 0\ndev 0 test -e mmc 0:1 /a\ntext 1\\n\nunset z\nend 0\nrun 10\ndev 1 test -e mmc 0:1 /a\ndev 0 test -e mmc 0 b\ntext 0\\n\nunset z\nend 0\nrun 11\ndev 1 test -e mmc 0:1 /a\ndev 1 test -e mmc 0 b\ntext 1\\n\nunset z\nend 0\ndone\n"
unfolding listed
file_among_words = refl

-- words after the file that U-Boot cannot read hold, whether it is there or not
file_in_front_of_a_word : listed (bootcmd (record (limits only_load 2 10000) { shell = Old2025 }) (codes "test -e mmc 0 a b; echo $?")) z None
    ≡ codes "run 0\ndev 0 test -e mmc 0 a\ntext 0\\n\nunset z\nend 0\nrun 1\ndev 1 test -e mmc 0 a\ntext 0\\n\nunset z\nend 0\ndone\n"
unfolding listed
file_in_front_of_a_word = refl

-- a text of `run` with a fault has the status 1, and nothing of it is run
text_without_end : in_each (codes "setenv t 'echo b; if true; then echo a'; run t; echo $?; run t || echo c") ≡ ([], Syntax (codes "t")) ∷ (codes "1\nc\n", End 0) ∷ (codes "1\nc\n", End 0) ∷ []
unfolding told_of
text_without_end = refl

other_fault_of_a_text : in_each (codes "setenv t 'echo b; fi'; run t; echo $?") ≡ ([], Syntax (codes "t")) ∷ (codes "1\n", End 0) ∷ (codes "1\n", End 0) ∷ []
unfolding told_of
other_fault_of_a_text = refl

-- of the text of `bootcmd` without its end nothing is run, and the status stays
first_text_without_end : in_each (codes "echo b; if true; then echo a") ≡ ([], Syntax (codes "bootcmd")) ∷ ([], End 0) ∷ ([], End 0) ∷ []
unfolding told_of
first_text_without_end = refl

-- a text that is not read ends the run before it acts: also one whose lines before its last one would be run
unread_text : in_each (codes "echo b\nif true; then") ≡ ([], Syntax (codes "bootcmd")) ∷ ([], Unsupported (codes "bootcmd")) ∷ ([], Unsupported (codes "bootcmd")) ∷ []
unfolding told_of
unread_text = refl

other_fault_of_the_first_text : in_each (codes "echo b; fi") ≡ ([], Syntax (codes "bootcmd")) ∷ ([], Unsupported (codes "bootcmd")) ∷ ([], Unsupported (codes "bootcmd")) ∷ []
unfolding told_of
other_fault_of_the_first_text = refl

-- `exit` ends nothing in 2023.01, and its status says whether its number is 0. In 2025.01 it ends the text
exit_with_a_number : in_each (codes "exit 3; echo $?") ≡ ([], End 3) ∷ (codes "1\n", End 0) ∷ ([], End 3) ∷ []
unfolding told_of
exit_with_a_number = refl

exit_without_a_word : in_each (codes "false; exit; echo $?") ≡ ([], End 0) ∷ (codes "0\n", End 0) ∷ ([], End 0) ∷ []
unfolding told_of
exit_without_a_word = refl

exit_with_a_name : in_each (codes "exit x; echo $?") ≡ (codes "1\n", End 0) ∷ (codes "0\n", End 0) ∷ ([], End 0) ∷ []
unfolding told_of
exit_with_a_name = refl

exit_numbers : in_shell (codes "exit 0x0; echo $?; exit 0X10; echo $?; exit 4294967296; echo $?; exit 010; echo $?; exit 0 0; echo $?") Old2023 ≡ (codes "0\n1\n0\n1\n1\n", End 0)
unfolding told_of
exit_numbers = refl

-- ---- `exit` in 2025.01, whose sandbox was asked

abbrev by_newer : List Text → List Told
by_newer texts = map (λ text. in_shell text Old2025) texts

-- it ends the text with its status; with several words it is an error of usage, and ends nothing
newer_exits : by_newer (codes "exit 1; echo a" ∷ codes "exit -1; echo a" ∷ codes "true && exit 1 || echo a" ∷ codes "exit 1 2; echo $?" ∷ [])
    ≡ ([], End 1) ∷ ([], End 0) ∷ ([], End 1) ∷ (codes "1\n", End 0) ∷ []
unfolding told_of
newer_exits = refl

-- within a compound command it ends the text with status 0, whatever its number is
newer_exits_within : by_newer (codes "if true; then exit 3; fi; echo a" ∷ codes "while exit 3; do true; done; echo a" ∷ codes "for i in 1 2; do false || exit 3; done; echo a" ∷ codes "if true; then exit 1 2; echo $?; fi" ∷ [])
    ≡ ([], End 0) ∷ ([], End 0) ∷ ([], End 0) ∷ (codes "1\n", End 0) ∷ []
unfolding told_of
newer_exits_within = refl

-- with a variable in its command it ends nothing, and has its status
newer_exits_read_again : by_newer (codes "x=1; exit $x; echo $?" ∷ codes "e=exit; $e 1; echo $?" ∷ codes "if true; then exit $none; echo $?; fi" ∷ codes "false; exit $?; echo $?" ∷ [])
    ≡ (codes "1\n", End 0) ∷ (codes "1\n", End 0) ∷ (codes "0\n", End 0) ∷ (codes "1\n", End 0) ∷ []
unfolding told_of
newer_exits_read_again = refl

-- its number is its status up to 255: decimal, or hexadecimal after `0x`; a word that is no number is 0
newer_exit_numbers : by_newer (codes "exit 2; echo a" ∷ codes "exit 255" ∷ codes "exit 0x10" ∷ codes "exit 010" ∷ codes "exit 3x" ∷ codes "x=255; exit $x; echo $?" ∷ [])
    ≡ ([], End 2) ∷ ([], End 255) ∷ ([], End 16) ∷ ([], End 10) ∷ ([], End 3) ∷ (codes "255\n", End 0) ∷ []
unfolding told_of
newer_exit_numbers = refl

-- -1 in 32 bits is an error of usage
newer_exits_by_usage : by_newer (codes "exit 4294967295; echo $?" ∷ codes "if true; then exit 0xffffffff; echo $?; fi" ∷ codes "exit 8589934591 || echo a" ∷ [])
    ≡ (codes "1\n", End 0) ∷ (codes "1\n", End 0) ∷ (codes "a\n", End 0) ∷ []
unfolding told_of
newer_exits_by_usage = refl

newer_exits_not_followed : by_newer (codes "exit 256" ∷ codes "x=256; exit $x" ∷ codes "exit 4294967301" ∷ codes "if true; then exit 4294967294; fi" ∷ [])
    ≡ ([], Unsupported (codes "exit")) ∷ ([], Unsupported (codes "exit")) ∷ ([], Unsupported (codes "exit")) ∷ ([], Unsupported (codes "exit")) ∷ []
unfolding told_of
newer_exits_not_followed = refl

-- of a text that `run` has started it ends that text alone, and `run` has its status
abbrev started_newer : Text → Text → Told
started_newer t text = told_of (bootcmd_among (record (limits only_load 2 10000) { shell = Old2025 }) ((codes "t", t) ∷ []) text)

newer_exits_of_texts : started_newer (codes "if true; then exit 3; fi; echo a") (codes "run t; echo $?") ∷ started_newer (codes "exit 1; echo a") (codes "run t || echo $?") ∷ []
    ≡ (codes "0\n", End 0) ∷ (codes "1\n", End 0) ∷ []
unfolding told_of
newer_exits_of_texts = refl

-- a text that ends by itself with another status than 0 gives its `run` the status 1: a command with a variable whose `exit` ends
-- nothing, and a `run` whose text has ended so
newer_ends_of_texts : map (λ t. started_newer t (codes "run t; echo $?")) (codes "exit 5; echo a" ∷ codes "x=5; exit $x" ∷ codes "x=5; exit $x; true" ∷ codes "exit $none" ∷ [])
    ≡ (codes "5\n", End 0) ∷ (codes "1\n", End 0) ∷ (codes "0\n", End 0) ∷ (codes "0\n", End 0) ∷ []
unfolding told_of
newer_ends_of_texts = refl

-- the texts of t, u and v
abbrev started_among : List Text → Shell → Told
started_among texts shell = told_of (bootcmd_among (record (limits only_load 2 10000) { shell = shell }) (zip (codes "t" ∷ codes "u" ∷ codes "v" ∷ []) texts) (codes "run t u; echo $?"))

-- the second text follows if `exit` has ended the first with status 0; and a text whose `run` has the status 9 gives its own the 1
newer_texts_of_texts : map (λ texts. started_among texts Old2025) ((codes "exit" ∷ codes "exit 9" ∷ []) ∷ (codes "exit 9" ∷ codes "echo u" ∷ []) ∷ (codes "run v" ∷ codes "echo u" ∷ codes "exit 9" ∷ []) ∷ (codes "run v; exit" ∷ codes "echo u" ∷ codes "exit 9" ∷ []) ∷ [])
    ≡ (codes "9\n", End 0) ∷ (codes "9\n", End 0) ∷ (codes "1\n", End 0) ∷ (codes "u\n0\n", End 0) ∷ []
unfolding told_of
newer_texts_of_texts = refl

-- in ubtool's own reading a `run` has the status of its text, however that has ended
status_of_a_text : map (started_among (codes "run v" ∷ codes "true" ∷ codes "exit 9" ∷ [])) (Profile ∷ Old2023 ∷ []) ≡ (codes "9\n", End 0) ∷ (codes "1\n", End 0) ∷ []
unfolding told_of
status_of_a_text = refl

-- an assignment of an empty value changes nothing in 2023.01
empty_value : in_each (codes "x=a; x=; echo $?$x; x=$none; echo $?$x") ≡ (codes "0\n0\n", End 0) ∷ (codes "0a\n0a\n", End 0) ∷ (codes "0\n0\n", End 0) ∷ []
unfolding told_of
empty_value = refl

-- options of `setenv`: `-f` and `-` are dropped, and by another letter it prints its usage
option_of_setenv : in_each (codes "setenv -f b c; echo $b $?") ≡ (codes "1\n", End 0) ∷ (codes "c 0\n", End 0) ∷ (codes "c 0\n", End 0) ∷ []
unfolding told_of
option_of_setenv = refl

options_of_setenv : in_each (codes "o=-; setenv $o -ff b c -f; echo $b $?; setenv -f b; echo $b $?") ≡ (codes "1\n1\n", End 0) ∷ (codes "c -f 0\n0\n", End 0) ∷ (codes "c -f 0\n0\n", End 0) ∷ []
unfolding told_of
options_of_setenv = refl

other_option_of_setenv : in_each (codes "setenv -f -x b; echo $?; setenv -fx b c; echo $? $b") ≡ (codes "1\n1\n", End 0) ∷ (codes "1\n1\n", End 0) ∷ (codes "1\n1\n", End 0) ∷ []
unfolding told_of
other_option_of_setenv = refl

-- calls that are not followed: `setenv` with an option alone, an empty name, more than one file among the words of `test`, and in
-- 2023.01 more than 16 words
option_alone : in_each (codes "echo a; setenv -f; echo $?") ≡ (codes "a\n1\n", End 0) ∷ (codes "a\n", Unsupported (codes "setenv")) ∷ (codes "a\n", Unsupported (codes "setenv")) ∷ []
unfolding told_of
option_alone = refl

empty_name_of_setenv : in_each (codes "setenv \"\" c; echo $?") ≡ (codes "1\n", End 0) ∷ ([], Unsupported (codes "setenv")) ∷ ([], Unsupported (codes "setenv")) ∷ []
unfolding told_of
empty_name_of_setenv = refl

files_of_a_test : in_each (codes "test -e mmc 0:1 /a -o -e mmc 0:1 /b; echo $?") ≡ (codes "1\n", End 0) ∷ ([], Unsupported (codes "test")) ∷ ([], Unsupported (codes "test")) ∷ []
unfolding told_of
files_of_a_test = refl

many_words : in_each (codes "echo 1 2 3 4 5 6 7 8 9 a b c d e f; echo 1 2 3 4 5 6 7 8 9 a b c d e f g") ≡ (codes "1 2 3 4 5 6 7 8 9 a b c d e f\n1 2 3 4 5 6 7 8 9 a b c d e f g\n", End 0)
    ∷ (codes "1 2 3 4 5 6 7 8 9 a b c d e f\n", Unsupported (codes "echo")) ∷ (codes "1 2 3 4 5 6 7 8 9 a b c d e f\n1 2 3 4 5 6 7 8 9 a b c d e f g\n", End 0) ∷ []
unfolding told_of
many_words = refl

-- in 2025.01 a call has at most 64 words: one with more has the status 1, and does nothing else
abbrev some_words : ℕ → Text
some_words count = flat_map {X = ℕ} (λ n. codes " a") (replicate count 0)

most_words_of_a_call : map (λ text. in_shell text Old2025) ((codes "echo" ++ some_words 63 ++ codes "; echo $?") ∷ (codes "echo" ++ some_words 64 ++ codes "; echo $?") ∷ (codes "load" ++ some_words 64 ++ codes "; echo $?") ∷ (codes "setenv b" ++ some_words 63 ++ codes " || echo $b") ∷ [])
    ≡ (codes "a" ++ some_words 62 ++ codes "\n0\n", End 0) ∷ (codes "1\n", End 0) ∷ (codes "1\n", End 0) ∷ (codes "\n", End 0) ∷ []
unfolding told_of
most_words_of_a_call = refl

-- a variable without a value reaches its default
defaults : map (λ text. in_shell text Old2023) (codes "echo ${a:-b c}; a=1; echo ${a:-b} ${a:+d} ${e:+f}; g=${h:-i}; echo $g" ∷ codes "for i in ${a:-b c}; do echo $i; done" ∷ [])
    ≡ (codes "b c\n1 f\ni\n", End 0) ∷ (codes "b\nc\n", End 0) ∷ []
unfolding told_of
defaults = refl

-- a first condition without a command holds, and keeps the status
given : map (λ text. in_shell text Old2023) (codes "false; if; then echo $?; fi; echo $?" ∷ codes "if; then false; fi || echo a" ∷ [])
    ≡ (codes "1\n0\n", End 0) ∷ (codes "a\n", End 0) ∷ []
unfolding told_of
given = refl

-- a `for` whose name is none runs a command that no board has, if there is a word for it
misnames : map (λ text. in_shell text Old2023) (codes "echo a; for 1 in b; do echo c; done" ∷ codes "for x-y in $none; do echo c; done; echo d" ∷ [])
    ≡ (codes "a\n", Unknown (codes "1=")) ∷ (codes "d\n", End 0) ∷ []
unfolding told_of
misnames = refl

-- a call of 16 words and fewer, and `setenv` with a name, are made
plain_calls : in_each (codes "setenv a -f; test -e mmc 0:1; echo $a $?") ≡ (codes "-f 1\n", End 0) ∷ (codes "-f 0\n", End 0) ∷ (codes "-f 0\n", End 0) ∷ []
unfolding told_of
plain_calls = refl

-- blocks without a command, and a comment alone
blocks_of_nothing : in_each (codes "if true; then # a\nelse; fi; echo $?") ≡ ([], Syntax (codes "bootcmd")) ∷ (codes "0\n", End 0) ∷ (codes "0\n", End 0) ∷ []
unfolding told_of
blocks_of_nothing = refl

-- an operator at the end of a line does nothing
operator_at_the_end : in_each (codes "false &&\necho a") ≡ ([], End 1) ∷ (codes "a\n", End 0) ∷ (codes "a\n", End 0) ∷ []
unfolding told_of
operator_at_the_end = refl

-- an assignment in front of a command is made, and then the command runs
assignment_in_front : in_each (codes "x=1 echo a; echo $x") ≡ ([], Syntax (codes "bootcmd")) ∷ (codes "a\n1\n", End 0) ∷ (codes "a\n1\n", End 0) ∷ []
unfolding told_of
assignment_in_front = refl

-- `env set` has its options computed in each shell, and an empty name is not followed in it either
abbrev env_computed : Text → Shell → Told
env_computed text shell = told_of (bootcmd (record (limits (record only_load { known = codes "env" ∷ [] }) 2 10000) { shell = shell }) text)

empty_name_of_env : map (env_computed (codes "env set -f a b; echo $a; env set \"\" c; echo $?")) (Profile ∷ Old2023 ∷ Old2025 ∷ [])
    ≡ (codes "b\n1\n", End 0) ∷ (codes "b\n", Unsupported (codes "env")) ∷ (codes "b\n", Unsupported (codes "env")) ∷ []
unfolding told_of
empty_name_of_env = refl
