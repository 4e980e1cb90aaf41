-- What U-Boot's modern shell does, computed. The expected values are those of that shell of U-Boot 2025.01.
use Rattle.std.proofs.Common.{◌≡◌, List, [], ◌∷◌, codes, refl, map}
use Rattle.rehearse_terms.specs.State.{Text}
use Rattle.rehearse_terms.specs.declared.shell.Shell.TheVariants.{Modern2025}
use Rattle.rehearse_rules.specs.Execution.{Limits, End, Panic, Unsupported}
use Rattle.rehearse_rules.proofs.ExampleRehearsals.{only_load, limits, bootcmd, bootcmd_among, Told, told_of}

abbrev in_modern : Limits
in_modern = record (limits only_load 2 10000) { shell = Modern2025 }

-- what texts write and how they end
abbrev by_modern : List Text → List Told
by_modern texts = map (λ text. told_of (bootcmd in_modern text)) texts

-- operators of a list have one rank, and a command that is skipped keeps the status
skipped_commands : by_modern (codes "false && echo a || echo b; echo c" ∷ codes "true || echo a && echo b" ∷ codes "false && true || true" ∷ [])
    ≡ (codes "b\nc\n", End 0) ∷ (codes "b\n", End 0) ∷ ([], End 0) ∷ []
unfolding told_of
skipped_commands = refl

words_of_nothing : by_modern (codes "false; $none; echo $?" ∷ [])
    ≡ (codes "1\n", End 0) ∷ []
unfolding told_of
words_of_nothing = refl

-- a block of an `if` that is not run sets the status 0 if it has a command, also in front of `else` and of the next condition
blocks_that_are_skipped : by_modern (codes "if false; then true; elif false; then true; fi; echo $?" ∷ codes "if false; then; fi; echo $?" ∷ codes "if false; then true; elif false; then; fi; echo $?" ∷ codes "if false; then true; else echo $?; fi" ∷ codes "if false; then true; elif test $? = 0; then echo b; fi" ∷ codes "if false; then true; else; fi; echo $?" ∷ [])
    ≡ (codes "0\n", End 0) ∷ (codes "1\n", End 0) ∷ (codes "1\n", End 0) ∷ (codes "0\n", End 0) ∷ (codes "b\n", End 0) ∷ (codes "0\n", End 0) ∷ []
unfolding told_of
blocks_that_are_skipped = refl

-- a loop that its condition has ended has the status 0
loops_that_end : by_modern (codes "while false; do true; done; echo $?" ∷ codes "x=a; until test $x = b; do x=b; false; done; echo $?" ∷ [])
    ≡ (codes "0\n", End 0) ∷ (codes "0\n", End 0) ∷ []
unfolding told_of
loops_that_end = refl

-- a `for` sets the status 0 before its words are found; a turn keeps that of the body before it
turns_of_a_for : by_modern (codes "for i in a b; do echo $?; false; done" ∷ codes "false; for i in $? $none; do echo $i; done; echo $?" ∷ codes "false; for i in; do true; done; echo $?" ∷ codes "false; for i in $none; do true; done; echo $?" ∷ [])
    ≡ (codes "0\n1\n", End 1) ∷ (codes "0\n0\n", End 0) ∷ (codes "0\n", End 0) ∷ (codes "0\n", End 0) ∷ []
unfolding told_of
turns_of_a_for = refl

-- values are not read again, and are cut outside double quotes alone
values : by_modern (codes "x='\"a  b\"'; echo $x" ∷ codes "x='#a'; echo b $x c" ∷ codes "x='a b'; for i in \"$x\" c; do echo $i; done" ∷ [])
    ≡ (codes "\"a b\"\n", End 0) ∷ (codes "b #a c\n", End 0) ∷ (codes "a b\nc\n", End 0) ∷ []
unfolding told_of
values = refl

-- `test` is that of U-Boot 2025.01
truths : by_modern (codes "test $none = v; echo $?" ∷ codes "test a = b c; echo $?" ∷ [])
    ≡ (codes "0\n", End 0) ∷ (codes "0\n", End 0) ∷ []
unfolding told_of
truths = refl

-- an empty value is assigned; in front of a command no assignment is made
assignments : by_modern (codes "x=a; x=; echo $?$x; x=$none; echo $?$x" ∷ codes "x=1 echo a; echo $x" ∷ [])
    ≡ (codes "0\n0\n", End 0) ∷ (codes "a\n\n", End 0) ∷ []
unfolding told_of
assignments = refl

-- `''` is no word, and a word with a byte of a pattern keeps the backslashes that quotes have put in
words : by_modern (codes "echo a '' \"\" b" ∷ codes "echo a*\\b \"x-y\"*" ∷ [])
    ≡ (codes "a  b\n", End 0) ∷ (codes "a*\\b x\\-y*\n", End 0) ∷ []
unfolding told_of
words = refl

-- a text of `run` with a fault that the shell reports has the status 1, and nothing of it is run; at one by which it gives up the run ends
abbrev started : Text → Text → Told
started t text = told_of (bootcmd_among in_modern ((codes "t", t) ∷ []) text)

faults : started (codes "echo b; if true; then echo a") (codes "run t; echo $?; run t || echo c") ∷ started (codes "echo b; fi") (codes "run t") ∷ started (codes "false") (codes "run t; echo $?") ∷ []
    ≡ (codes "1\nc\n", End 0) ∷ ([], Panic (codes "t")) ∷ (codes "1\n", End 0) ∷ []
unfolding told_of
faults = refl

-- so it is with the text of `bootcmd`: the run ends with the status 1, or as the shell gives up
first_faults : by_modern (codes "echo b; if true; then echo a" ∷ codes "echo \"a" ∷ codes "echo b; echo ${a.b}" ∷ codes "echo b; fi" ∷ codes "if true; then echo a; fi b" ∷ codes "for 1x in a; do echo b; done" ∷ codes "echo b\nfi" ∷ [])
    ≡ ([], End 1) ∷ ([], End 1) ∷ ([], End 1) ∷ ([], Panic (codes "bootcmd")) ∷ ([], Panic (codes "bootcmd")) ∷ ([], Panic (codes "bootcmd")) ∷ ([], Panic (codes "bootcmd")) ∷ []
unfolding told_of
first_faults = refl

-- and a text that is not followed ends the run
texts_not_followed : started (codes "true | true") (codes "echo a; run t") ∷ told_of (bootcmd in_modern (codes "echo a; true | true")) ∷ []
    ≡ (codes "a\n", Unsupported (codes "t")) ∷ ([], Unsupported (codes "bootcmd")) ∷ []
unfolding told_of
texts_not_followed = refl

-- NAME=VALUE of a `for` that fills a block of memory, of 24 bytes or 40; before any turn the run ends
filled_blocks : by_modern (codes "for i in aaaaaaaaaaaaaaaaaaaaa; do echo b; done" ∷ codes "for i in a aaaaaaaaaaaaaaaaaaaaaa; do echo b; done" ∷ codes "for i in aaaaaaaaaaaaaaaaaaaaaaaaaaaaaaaaaaaaaa; do echo b; done" ∷ codes "for i in aaaaaa; do echo b; done" ∷ [])
    ≡ (codes "b\n", End 0) ∷ ([], Unsupported (codes "i")) ∷ ([], Unsupported (codes "i")) ∷ (codes "b\n", End 0) ∷ []
unfolding told_of
filled_blocks = refl

-- braces, `!`, and an `if` whose first condition has no command, which holds and keeps the status
groups : by_modern (codes "{ echo a; false; } || echo b" ∷ codes "false; { x=$?; }; echo $?$x" ∷ codes "{ exit 3; echo a; }; echo $?" ∷ codes "! true && ! false; echo $?" ∷ codes "false; if; then echo $?; fi; if; then fi; echo $?" ∷ codes "false; if; then fi; echo $?" ∷ [])
    ≡ (codes "a\nb\n", End 0) ∷ (codes "01\n", End 0) ∷ (codes "251\n", End 0) ∷ (codes "1\n", End 0) ∷ (codes "1\n0\n", End 0) ∷ (codes "1\n", End 0) ∷ []
unfolding told_of
groups = refl

-- `exit` in no compound command ends the text that is running
exits : by_modern (codes "echo a; exit 3; echo b" ∷ codes "true && exit 3 || echo b" ∷ codes "false || exit; echo b" ∷ codes "exit 1 2; echo $?" ∷ [])
    ≡ (codes "a\n", End 3) ∷ ([], End 3) ∷ ([], End 0) ∷ (codes "1\n", End 0) ∷ []
unfolding told_of
exits = refl

-- `exit` in an `if`, also in a condition of it, leaves the innermost `if` alone, with another status
left_ifs : by_modern (codes "if true; then exit 3; echo b; fi; echo $?" ∷ codes "if true; then exit; fi; echo $?" ∷ codes "if true; then exit 254; fi && echo a" ∷ codes "if true; then exit 255; fi; echo $?" ∷ codes "if false; then true; else exit 1; fi; echo $?" ∷ codes "if exit 3; then echo b; else echo c; fi; echo $?" ∷ codes "if false; then true; elif exit 3; then echo b; fi; echo $?" ∷ codes "if true; then if true; then exit 3; fi; echo $?; exit 4; fi; echo $?" ∷ codes "if if true; then exit 254; fi; then echo b; fi; echo $?" ∷ codes "if true; then true && exit 3 || echo b; fi || echo $?" ∷ codes "x=7; if true; then exit $x; fi; echo $?" ∷ [])
    ≡ (codes "251\n", End 0) ∷ (codes "254\n", End 0) ∷ (codes "a\n", End 0) ∷ (codes "255\n", End 0) ∷ (codes "253\n", End 0) ∷ (codes "251\n", End 0) ∷ (codes "251\n", End 0) ∷ (codes "251\n250\n", End 0) ∷ (codes "b\n0\n", End 0) ∷ (codes "251\n", End 0) ∷ (codes "247\n", End 0) ∷ []
unfolding told_of
left_ifs = refl

-- and a loop, which is over then
left_loops : by_modern (codes "while true; do exit 3; echo b; done; echo $?" ∷ codes "while exit 3; do echo b; done; echo $?" ∷ codes "until false; do exit 254; done; echo $?" ∷ codes "until exit; do echo b; done; echo $?" ∷ codes "for i in a b; do echo $i; exit 3; done; echo $?" ∷ codes "for i in a b; do if true; then exit 3; fi; echo $i$?; done; echo $?" ∷ codes "while true; do if true; then exit 3; fi; echo $?; exit 5; done; echo $?" ∷ [])
    ≡ (codes "251\n", End 0) ∷ (codes "251\n", End 0) ∷ (codes "0\n", End 0) ∷ (codes "254\n", End 0) ∷ (codes "a\n251\n", End 0) ∷ (codes "a251\nb251\n0\n", End 0) ∷ (codes "251\n249\n", End 0) ∷ []
unfolding told_of
left_loops = refl

-- `exit` in a text of `run` leaves that text, also if the `run` is in a compound command
left_texts : started (codes "exit 3") (codes "run t; echo $?") ∷ started (codes "exit") (codes "run t t && echo a") ∷ started (codes "if true; then exit 3; fi; echo b; exit 4") (codes "run t; echo $?") ∷ started (codes "echo b; exit 3; echo c") (codes "if true; then run t; echo $?; fi; echo $?") ∷ started (codes "exit") (codes "if run t; then echo a; exit 2; fi; echo $?") ∷ started (codes "for i in 1 2; do exit 3; done") (codes "run t || echo $?") ∷ []
    ≡ (codes "3\n", End 0) ∷ (codes "a\n", End 0) ∷ (codes "b\n4\n", End 0) ∷ (codes "b\n3\n0\n", End 0) ∷ (codes "a\n252\n", End 0) ∷ (codes "251\n", End 0) ∷ []
unfolding told_of
left_texts = refl

-- options of `setenv`
options_of_setenv : by_modern (codes "setenv -f - b c; echo $b $?" ∷ codes "setenv -g b c; echo $b $?" ∷ codes "echo a; setenv -f bootcmd" ∷ [])
    ≡ (codes "c 0\n", End 0) ∷ (codes "1\n", End 0) ∷ (codes "a\n", Unsupported (codes "setenv")) ∷ []
unfolding told_of
options_of_setenv = refl

-- calls that are not followed: `exit` with a number above 255, `setenv` with an option alone, and one that changes the text that the
-- board runs
calls : by_modern (codes "echo a; exit 256" ∷ codes "echo a; setenv -f" ∷ codes "setenv b c; echo $b; setenv bootcmd d" ∷ codes "echo 1 2 3 4 5 6 7 8 9 a b c d e f g" ∷ [])
    ≡ (codes "a\n", Unsupported (codes "exit")) ∷ (codes "a\n", Unsupported (codes "setenv")) ∷ (codes "c\n", Unsupported (codes "setenv")) ∷ (codes "1 2 3 4 5 6 7 8 9 a b c d e f g\n", End 0) ∷ []
unfolding told_of
calls = refl
