-- Worked examples of the texts that U-Boot's old shell reads, computed. A sandbox of U-Boot 2023.01 does with each what this
-- says; the texts are among those that the comparison with it runs.
use Rattle.std.proofs.Common.{◌≡◌, ℕ, true, false, List, [], ◌∷◌, ◌++◌, map, refl, replicate, Some, None, is_some, Option}
use Rattle.std.specs.Prelude.{codes}
use Rattle.std.specs.List.{flat_map}
use Rattle.hushlang.specs.Tree.{Script, Empty, Runs, Starts, Alone, Joins, Simple, Assign, If, Arm, Else, NoElse, Loop, For, Bytes, Mark, Var, Status, Word}
use Rattle.hushlang.specs.Trees.{tree_of}
use Rattle.hushlang.specs.Expansion.{atoms, fields}
use Rattle.hushlang_old.specs.OldTrees.{old_tree_of, has_fault, lacks_end}

abbrev Text : Type 0
Text = List ℕ

-- a text, and the one that ubtool's own language reads in the same way
abbrev Pair : Type 0
Pair = Text × Text

abbrev by_shell : List Pair → List (Option Script)
by_shell pairs = map (λ pair. old_tree_of false pair.0) pairs

abbrev by_profile : List Pair → List (Option Script)
by_profile pairs = map (λ pair. tree_of pair.1) pairs

abbrev alike : Text → Pair
alike text = (text, text)

-- ---- commands and lists

abbrev lists : List Pair
lists =
    alike [] ∷ alike (codes "a b; c\nd") ∷ alike (codes "a && b || c; d") ∷ alike (codes "a # b;c\nd#e") ∷ alike (codes " \ta\t b ;; \n; c;")
    ∷ (codes "&& a || && b; || c && || d", codes "a || b; c && d") ∷ (codes "if || a; then && b; fi || && c", codes "if a; then b; fi || c") ∷ (codes "a &&\nb || ; c", codes "a; b; c") ∷ (codes "if a; then b && fi", codes "if a; then b; fi") ∷ []

lists_read : by_shell lists ≡ by_profile lists
unfolding old_tree_of tree_of
lists_read = refl

-- ---- words

abbrev words : List Pair
words =
    (codes "a'b c'\"d e\" ''", codes "'ab cd e' ''") ∷ alike (codes "a\\ b \\;") ∷ alike (codes "$a \"$b_1\"c ${d.e} ${1f} $? $ $1 $@ a$") ∷ alike (codes "\"$?;#\n&|\"")
    ∷ (codes "'a\\b' 'c\\\\d'", codes "'ab' 'c\\d'") ∷ (codes "\"a\\$b\\\"c\\\\d\"", codes "'a\\$b\\\"c\\\\d'")
    ∷ (codes "\"it's a'\"", codes "'its a'") ∷ (codes "a \"\"#b", codes "a \"\"") ∷ (codes "$_x", codes "\\$_x") ∷ (codes "a\"b\"", codes "''ab")
    ∷ (codes "${a}b#c", codes "${a}b#c") ∷ []

words_read : by_shell words ≡ by_profile words
unfolding old_tree_of tree_of
words_read = refl

-- a newline after a backslash belongs to its word, also at the end of a text; `${?}` is a variable
abbrev one : Word → Option Script
one word = Some (Runs (Starts (Simple (word ∷ [])) Alone) Empty)

own_words : map (old_tree_of false) (codes "a\\\nb" ∷ codes "a\\" ∷ codes "${?}" ∷ [])
    ≡ one (Bytes (codes "a\nb") ∷ []) ∷ one (Bytes (codes "a\n") ∷ []) ∷ one (Var (codes "?") true ∷ []) ∷ []
unfolding old_tree_of
own_words = refl

-- double quotes that are open at the end hold the newline there. None is added to a text whose first one is at its end
open_quotes : map (old_tree_of false) (codes "\"a" ∷ codes "\"a\n" ∷ codes "\"a\n\n" ∷ codes "a\"$b" ∷ codes "\"" ∷ codes "a\nb \"c;\n" ∷ codes "if a; then b; fi \"" ∷ codes "if \"a" ∷ [])
    ≡ one (Mark ∷ Bytes (codes "a\n") ∷ []) ∷ one (Mark ∷ Bytes (codes "a\n") ∷ []) ∷ one (Mark ∷ Bytes (codes "a\n\n\n") ∷ [])
    ∷ one (Mark ∷ Bytes (codes "a") ∷ Var (codes "b") false ∷ Bytes (codes "\n") ∷ []) ∷ one (Mark ∷ Bytes (codes "\n") ∷ [])
    ∷ Some (Runs (Starts (Simple ((Bytes (codes "a") ∷ []) ∷ [])) Alone) (Runs (Starts (Simple ((Bytes (codes "b") ∷ []) ∷ (Mark ∷ Bytes (codes "c;\n\n") ∷ []) ∷ [])) Alone) Empty))
    ∷ None ∷ None ∷ []
unfolding old_tree_of
open_quotes = refl

-- in braces other bytes are in a name than elsewhere, and it may be empty
brace_names : map (old_tree_of false) (codes "${}" ∷ codes "\"${a b}\"" ∷ codes "${'a=\"{\n;#&}" ∷ codes "${a$?}" ∷ [])
    ≡ one (Var [] true ∷ []) ∷ one (Mark ∷ Var (codes "a b") false ∷ []) ∷ one (Var (codes "'a=\"{\n;#&") true ∷ []) ∷ one (Var (codes "a$?") true ∷ []) ∷ []
unfolding old_tree_of
brace_names = refl

-- a variable without a value expands to what is after a `:`
defaults : map (old_tree_of false) (codes "${a:-b c}" ∷ codes "\"${a:+'$b\"}\"" ∷ codes "${:?=}" ∷ [])
    ≡ one (Var (codes "a:-b c") true ∷ []) ∷ one (Mark ∷ Var (codes "a:+'$b\"") false ∷ []) ∷ one (Var (codes ":?=") true ∷ []) ∷ []
unfolding old_tree_of
defaults = refl

-- ---- assignments

abbrev assignments : List Pair
assignments =
    alike (codes "x=1") ∷ alike (codes "x=$a y_2=") ∷ (codes "x=$a\"b c\"", codes "x=$a\\b\\ c") ∷ alike (codes "a x=1") ∷ alike (codes "1x=2") ∷ (codes "'x'=1", codes "x=1")
    ∷ (codes "x=1 load a", codes "x=1 && load a") ∷ (codes "x=1 y=2 if || c", codes "x=1 y=2 && \\if || c")
    ∷ (codes "_x=1", codes "\\_x=1") ∷ []

assignments_read : by_shell assignments ≡ by_profile assignments
unfolding old_tree_of tree_of
assignments_read = refl

-- ---- compound commands

abbrev compounds : List Pair
compounds =
    alike (codes "if a; then b; elif c\nthen d\nelse e; fi; f") ∷ alike (codes "while a; do b; done || until c; do d; done")
    ∷ alike (codes "for x in 'a b' $c; do d; done; for y in\n\n do e; done") ∷ alike (codes "if if a; then b; fi; then c; fi && d") ∷ alike (codes "\\if a; b if then fi")
    ∷ (codes "for \"x\" in a fi; do b; done", codes "for x in a fi; do b; done") ∷ (codes "i'f' a; \"then\" b; fi", codes "if a; then b; fi") ∷ []

compounds_read : by_shell compounds ≡ by_profile compounds
unfolding old_tree_of tree_of
compounds_read = refl

-- a block without a command has one without words
abbrev a : Script
a = Runs (Starts (Simple ((Bytes (codes "a") ∷ []) ∷ [])) Alone) Empty

abbrev nothing : Script
nothing = Runs (Starts (Simple []) Alone) Empty

empty_blocks : map (old_tree_of false) (codes "if a; then # b\nfi" ∷ codes "if a; then fi" ∷ codes "if a; then; elif a; then a; else; fi" ∷ codes "while a; do done" ∷ codes "for x in y; do\ndone" ∷ [])
    ≡ Some (Runs (Starts (If (Arm a nothing NoElse)) Alone) Empty) ∷ Some (Runs (Starts (If (Arm a nothing NoElse)) Alone) Empty)
    ∷ Some (Runs (Starts (If (Arm a nothing (Arm a a (Else nothing)))) Alone) Empty)
    ∷ Some (Runs (Starts (Loop false a nothing) Alone) Empty) ∷ Some (Runs (Starts (For (codes "x") ((Bytes (codes "y") ∷ []) ∷ []) nothing) Alone) Empty) ∷ []
unfolding old_tree_of
empty_blocks = refl

-- A first condition without a command holds, so that the `if` reaches its block
abbrev given : Option Script
given = Some (Runs (Starts (If (Arm a nothing NoElse)) Alone) Empty)

given_read : map (old_tree_of false) (codes "if; then a; fi" ∷ codes "if then a; fi" ∷ codes "if\n || then; a\nfi" ∷ [])
    ≡ given ∷ given ∷ given ∷ []
unfolding old_tree_of
given_read = refl

-- The turns of a `for` whose name is none start with a command that no board has
abbrev misnamed : (name : Text) → Option Script
misnamed name =
    let command = Runs (Starts (Simple ((Bytes (name ++ codes "=") ∷ []) ∷ [])) Alone) a in
    Some (Runs (Starts (For name ((Bytes (codes "b") ∷ []) ∷ []) command) Alone) Empty)

misnames : map (old_tree_of false) (codes "for 1 in b; do a; done" ∷ codes "for \"x-y\" in b; do; a; done" ∷ codes "for .b_1 in b; do a; done" ∷ [])
    ≡ misnamed (codes "1") ∷ misnamed (codes "x-y") ∷ misnamed (codes ".b_1") ∷ []
unfolding old_tree_of
misnames = refl

-- A loop with an empty condition never runs its body, and its status is 0, as that of a `for` without words is. Nor does a `for` without
-- a name
abbrev never : Option Script
never = Some (Runs (Starts (For [] [] a) Alone) Empty)

never_run : map (old_tree_of false) (codes "while; do a; done" ∷ codes "until do a; done" ∷ codes "for in b c; do a; done" ∷ codes "for in do a; done" ∷ [])
    ≡ never ∷ never ∷ never ∷ never ∷ []
unfolding old_tree_of
never_run = refl

-- A `for` that is reported as a fault when it is run has the status 1 and runs nothing: `while false` in its place
abbrev told : List Pair
told =
    (codes "for x in b; c; do a; done; d", codes "while false; do a; done; d") ∷ (codes "for x in b && c $d 'e'\n do a; done || d", codes "while false; do a; done || d")
    ∷ (codes "for x in do a; done", codes "while false; do a; done") ∷ (codes "for x y in b; do a; done", codes "while false; do a; done")
    ∷ (codes "for x\n in b; do a; done", codes "while false; do a; done") ∷ (codes "for; x in b; do a; done", codes "while false; do a; done")
    ∷ (codes "for in b; c; do a; done", codes "while false; do a; done") ∷ (codes "for x in; b do; do a; done", codes "while false; do a; done")
    ∷ (codes "for x in b &&; do a; done", codes "for x in b; do a; done") ∷ []

told_read : by_shell told ≡ by_profile told
unfolding old_tree_of tree_of
told_read = refl

-- ---- `exit` in 2025.01, as a sandbox of that version has it

-- Each text is read there as the other one is in 2023.01: within a compound command an `exit` loses its number, unless a variable is
-- in its words, more words are there, or its number is none that ends the text.
abbrev exits : List Pair
exits =
    (codes "exit 3; if exit 0x5; then b; fi && exit 4", codes "exit 3; if exit; then b; fi && exit 4")
    ∷ (codes "if a; then 'exit' \"5x\"; else exit foo || exit ''; fi", codes "if a; then exit; else exit || exit; fi")
    ∷ (codes "while \\exit -1; do x=1 exit 2147483646; done", codes "while exit; do x=1 exit; done")
    ∷ (codes "for x in exit 3; do until exit 1; do a; done; done", codes "for x in exit 3; do until exit; do a; done; done")
    ∷ alike (codes "if a; then exit; exit $x; exit $?; exit 1 2; exit 2147483647; $e 3; exits 3; fi") ∷ []

exits_read : map (λ pair. old_tree_of true pair.0) exits ≡ map (λ pair. old_tree_of false pair.1) exits
unfolding old_tree_of fields atoms
exits_read = refl

-- ---- texts that are not followed

abbrev nothing_of : List Text → List (Option Script)
nothing_of texts = map (λ text. None) texts

-- quotes, braces and signs
abbrev broken_words : List Text
broken_words =
    codes "'a" ∷ codes "${a" ∷ codes "${a:=b}" ∷ codes "${:=" ∷ codes "${$?}" ∷ codes "${a\\b}" ∷ (36 ∷ 123 ∷ 4 ∷ 125 ∷ []) ∷ codes "a & b" ∷ codes "a | b" ∷ codes "a &| b" ∷ codes "a &" ∷ codes "'a\\' b"
    ∷ codes "\"it's\"" ∷ (97 ∷ 3 ∷ []) ∷ (97 ∷ 4 ∷ []) ∷ (97 ∷ 128 ∷ []) ∷ (39 ∷ 200 ∷ 39 ∷ []) ∷ (92 ∷ 200 ∷ []) ∷ []

broken_words_refused : map (old_tree_of false) broken_words ≡ nothing_of broken_words
unfolding old_tree_of
broken_words_refused = refl

-- commands and assignments
abbrev broken_commands : List Text
broken_commands =
    codes "\"\" a" ∷ codes "x=$a load" ∷ codes "x=1 load $a" ∷ codes "x=1 load a $?" ∷ codes "HUSH_VERSION=1" ∷ codes "x=1 HUSH_NO_EVAL=1"
    ∷ codes "in" ∷ codes "fi" ∷ codes "'done'" ∷ []

broken_commands_refused : map (old_tree_of false) broken_commands ≡ nothing_of broken_commands
unfolding old_tree_of
broken_commands_refused = refl

-- compound commands
abbrev broken_compounds : List Text
broken_compounds =
    codes "if a; then b" ∷ codes "if a; then b; fi c" ∷ codes "if a; then b; fi fi" ∷ codes "if; then b; else c; fi" ∷ codes "if; then b; elif c; then d; fi" ∷ codes "if; then; fi" ∷ codes "if a; then b; elif; then c; fi" ∷ codes "if a; then elif b; then c; fi" ∷ codes "if a; else b; fi"
    ∷ codes "if a; then b; else c; elif d; then e; fi" ∷ codes "while a; then b; done" ∷ codes "for x in a; do b; fi" ∷ codes "for fi in a; do b; done" ∷ codes "for a=1 in a; do b; done" ∷ codes "for \\1 in a; do b; done" ∷ codes "for '' in a; do b; done"
    ∷ codes "for $x in a; do b; done" ∷ codes "for HUSH_VERSION in a; do b; done" ∷ codes "for; in a; do b; done" ∷ codes "for x on a" ∷ codes "for x do b; done" ∷ codes "for x in fi; do b; done"
    ∷ codes "for x in a; in b; do c; done" ∷ codes "for x in a; if b; do c; done" ∷ codes "for" ∷ []

broken_compounds_refused : map (old_tree_of false) broken_compounds ≡ nothing_of broken_compounds
unfolding old_tree_of
broken_compounds_refused = refl

-- texts with a fault: their end is missing, or a word may not be where it is and a blank or a newline is after it
abbrev faulty : List Text
faulty =
    codes "if a; then b" ∷ codes "if a" ∷ codes "if a; then b; else c # fi" ∷ codes "if a; then if b; then c; fi; d" ∷ codes "while a; do" ∷ codes "for x in a b" ∷ codes "for x in a; do b; done; until c\nd" ∷ codes "if a && " ∷ codes "for" ∷ codes "for x" ∷ codes "for x a" ∷ codes "for x in a; b" ∷ codes "for && x"
    ∷ codes "fi" ∷ codes "a; \"done\" b; c" ∷ codes "a\nthen\tb" ∷ codes "if a; fi" ∷ codes "if a; then b; else c; elif d; then e; fi" ∷ codes "while a; then b; done" ∷ codes "for x in a; do b; fi" ∷ codes "if a; then b; fi fi" ∷ codes "if a; then b; fi c # d"
    ∷ codes "for fi in a; do b; done" ∷ codes "for x in if a; do b; done" ∷ codes "for x do a; done" ∷ codes "for x in a; in b; do c; done" ∷ codes "for x in a; b; if c; do d; done"
    ∷ codes "'a" ∷ codes "if 'a" ∷ codes "a; 'b\\" ∷ codes "\"it's\"" ∷ codes "${a" ∷ codes "if a; then \"${" ∷ codes "a & 'b' ${c:-d}" ∷ codes "a &" ∷ codes "| b" ∷ codes "if a |& b; then" ∷ codes "if ${a:-b}; then" ∷ codes "if; then b fi" ∷ []

-- texts without one, and those of which it is not known
abbrev faultless : List Text
faultless =
    codes "" ∷ codes "a; b" ∷ codes "if a; then b; fi" ∷ codes "\"a" ∷ codes "fi; 'a" ∷ codes "${$? '" ∷ codes "if a; b; fi; if c" ∷ codes "fi; a" ∷ codes "fi&&a" ∷ codes "fi||a" ∷ codes "x=$a fi" ∷ codes "if a; then b; fi c;" ∷ codes "for x in do a; done" ∷ codes "for in a; do b; done" ∷ codes "for; in a" ∷ codes "for x in fi; do" ∷ codes "if ${a:=b}; then" ∷ codes "if; then b; else c" ∷ codes "if; then fi" ∷ codes "if a; then elif b; then c; fi" ∷ codes "while; do b; done" ∷ codes "\\fi" ∷ codes "a fi" ∷ []

faults : map (has_fault false) (faulty ++ faultless) ≡ map (λ text. true) faulty ++ map (λ text. false) faultless
unfolding has_fault
faults = refl

-- a fault is not always that the end is missing
ends_missing : map (lacks_end false) (codes "if a; then \"b" ∷ codes "while a; do" ∷ codes "for x in a b" ∷ codes "for x\na" ∷ codes "if a && " ∷ codes "fi" ∷ codes "a; if fi" ∷ codes "a" ∷ []) ≡ true ∷ true ∷ true ∷ true ∷ true ∷ false ∷ false ∷ false ∷ []
unfolding lacks_end
ends_missing = refl

-- compound commands are nested 64 deep, and no deeper
abbrev nested : ℕ → Text
nested levels = flat_map {X = ℕ} (λ level. codes "if a; then ") (replicate levels 0) ++ codes "a" ++ flat_map {X = ℕ} (λ level. codes "; fi") (replicate levels 0)

nesting : map is_some (old_tree_of false (nested 64) ∷ old_tree_of false (nested 65) ∷ []) ≡ true ∷ false ∷ []
unfolding old_tree_of
nesting = refl

-- a text that ends within them has a fault; one that is not followed has none
abbrev not_ended : ℕ → Text
not_ended levels = flat_map {X = ℕ} (λ level. codes "if ") (replicate levels 0)

nesting_not_ended : map (λ text. has_fault false text) (not_ended 64 ∷ not_ended 65 ∷ []) ≡ true ∷ false ∷ []
unfolding has_fault
nesting_not_ended = refl
