-- What U-Boot's shells read otherwise in worked texts, computed. Each row has places that count and places that do not.
use Rattle.std.proofs.Common.{◌≡◌, [], ◌∷◌, refl}
use Rattle.std.specs.Prelude.{codes}
use Rattle.hushlang.specs.Tokenizing.{step, bare, dollar, braced, inside, front, word_front}
use Rattle.hushcheck.specs.Calls.{Warns}
use Rattle.hushcheck.specs.Warnings.{blocks_of, warnings_of}
use Rattle.hushcheck.specs.declared.warning.Warning.TheVariants.{Apostrophe, BackslashAtLineEnd, BackslashInDouble, BackslashInSingle, EmptyAssignment, EmptyWord, Exit, FileTest, LooseOperand, ManyWords, MixedList, OddName, OperatorAtLineEnd, OptionOfSetenv, Parenthesis, PartlyQuoted, ReservedName, SpecialParameter, StatusInBraces, StraightBehind, UnderscoreName, WordOfFor}

-- the first `||` after `&&`, and the `&&` after it; lists of one operator; two lists
mixed : warnings_of (codes "a && b || c && d; e && f && g; h || i; j && k") ≡ (7, Warns MixedList) ∷ (12, Warns MixedList) ∷ []
unfolding step bare dollar braced inside front word_front
mixed = refl

-- a line ends a list, and so does a block
other_lists : warnings_of (codes "a && b\nc || d; if e || f; then g && h; else i || j; fi") ≡ []
unfolding step bare dollar braced inside front word_front
other_lists = refl

-- the list goes on after a compound command that is in it, and the list inside is one of its own
around_if : warnings_of (codes "a && if b && c; then d; fi || e") ≡ (27, Warns MixedList) ∷ []
unfolding step bare dollar braced inside front word_front
around_if = refl

-- the same with a loop in a loop
around_for : warnings_of (codes "a || for i in b; do while c; do d; done; done && e") ≡ (46, Warns MixedList) ∷ []
unfolding step bare dollar braced inside front word_front
around_for = refl

-- the operator at the end of a line; empty lines and a comment after it change nothing
line_end : warnings_of (codes "a && # b\n\n\nc || d") ≡ (2, Warns OperatorAtLineEnd) ∷ (13, Warns MixedList) ∷ []
unfolding step bare dollar braced inside front word_front
line_end = refl

-- an operator in the middle of a line, and lines between lists
no_line_end : warnings_of (codes "a && b\n\nc;\nd") ≡ []
unfolding step bare dollar braced inside front word_front
no_line_end = refl

-- a blank, a variable in quotes, both empty words and a blank after a backslash; not a variable without quotes, and not quotes alone
for_words : warnings_of (codes "for i in \"a b\" \"$x\" '' \"\" a\\ b $y \"z\" '$x'; do b; done") ≡ (9, Warns WordOfFor) ∷ (15, Warns WordOfFor) ∷ (20, Warns WordOfFor) ∷ (23, Warns WordOfFor) ∷ (26, Warns WordOfFor) ∷ []
unfolding step bare dollar braced inside front word_front
for_words = refl

-- these are no words of a `for`
for_rest : warnings_of (codes "for i in a; do b \"c d\"; done; for \"$x\"") ≡ []
unfolding step bare dollar braced inside front word_front
for_rest = refl

-- a reserved word as the variable, and one that starts with `_`
for_names : warnings_of (codes "for fi in a; do b; done; for _x in a; do b; done; for x in fi; do b; done") ≡ (4, Warns ReservedName) ∷ (29, Warns UnderscoreName) ∷ []
unfolding step bare dollar braced inside front word_front
for_names = refl

-- words straight after compound commands
straight : warnings_of (codes "if a; then if b; then c; fi fi; for i in a; do b; done done") ≡ (28, Warns StraightBehind) ∷ (55, Warns StraightBehind) ∷ []
unfolding step bare dollar braced inside front word_front
straight = refl

-- a separator or an operator between
not_straight : warnings_of (codes "if a; then if b; then c; fi; fi && d; echo fi fi") ≡ []
unfolding step bare dollar braced inside front word_front
not_straight = refl

-- `exit` as a command, after assignments too, and not as a word of another
exit : warnings_of (codes "exit; x=1 exit 2; echo exit") ≡ (0, Warns Exit) ∷ (10, Warns Exit) ∷ []
unfolding step bare dollar braced inside front word_front
exit = refl

-- no value, or empty quotes; not as a word of a command, and not a value that ends in `=`
empty_assignments : warnings_of (codes "x=; y='' z=\"\"; echo x=; a==; =; 1=") ≡ (0, Warns EmptyAssignment) ∷ (4, Warns EmptyAssignment) ∷ (9, Warns EmptyAssignment) ∷ []
unfolding step bare dollar braced inside front word_front
empty_assignments = refl

-- a variable in or outside quotes, in braces, and an assignment; not in single quotes or after a backslash
underscores : warnings_of (codes "echo $_a \"$_b\" ${_c} '$_d' \\$_e $a_; _x=1") ≡ (5, Warns UnderscoreName) ∷ (9, Warns UnderscoreName) ∷ (15, Warns UnderscoreName) ∷ (37, Warns UnderscoreName) ∷ []
unfolding step bare dollar braced inside front word_front
underscores = refl

-- in single quotes; before `$`, a quote or a backslash in double quotes; not before another byte, and not outside
backslashes : warnings_of (codes "echo 'a\\b' \"a\\$b\" \"a\\\\b\" \"a\\\"b\" \"a\\b\" a\\$b") ≡ (5, Warns BackslashInSingle) ∷ (11, Warns BackslashInDouble) ∷ (18, Warns BackslashInDouble) ∷ (25, Warns BackslashInDouble) ∷ []
unfolding step bare dollar braced inside front word_front
backslashes = refl

-- in double quotes, not outside
apostrophes : warnings_of (codes "echo \"it's\" \\' '\"' a") ≡ (5, Warns Apostrophe) ∷ []
unfolding step bare dollar braced inside front word_front
apostrophes = refl

-- quotes, and a variable outside them; not one inside, not among the words of a `for`, and not in an assignment
partly : warnings_of (codes "echo a\"b\"$c \"$c\"d 'e'${f}; for i in \"a\"$b; do c; done; x=\"a\"$b") ≡ (5, Warns PartlyQuoted) ∷ (18, Warns PartlyQuoted) ∷ []
unfolding step bare dollar braced inside front word_front
partly = refl

-- a variable without quotes; `$?` is one word always
operands : warnings_of (codes "test $x = a; test \"$x\" = a -a $? = 0; echo $x; test -e $i 0 a") ≡ (5, Warns LooseOperand) ∷ (55, Warns LooseOperand) ∷ []
unfolding step bare dollar braced inside front word_front
operands = refl

-- `-e` that is compared, and one after a comparison
compared : warnings_of (codes "test a = -e; test a != -e; test = -e; test a = -e -o -e b") ≡ (34, Warns FileTest) ∷ (53, Warns FileTest) ∷ []
unfolding step bare dollar braced inside front word_front
compared = refl

-- `-e` that is not the first word of `test`, and a word too many after it; not `-e` with three words
file_tests : warnings_of (codes "test ! -e mmc 0 a; test -e mmc 0 a; test -e mmc 0 a -a b; echo a -e") ≡ (7, Warns FileTest) ∷ (52, Warns FileTest) ∷ []
unfolding step bare dollar braced inside front word_front
file_tests = refl

-- in single quotes alone
empty_words : warnings_of (codes "echo '' \"\" ''a") ≡ (5, Warns EmptyWord) ∷ []
unfolding step bare dollar braced inside front word_front
empty_words = refl

-- the first word of `setenv`
options : warnings_of (codes "setenv -f a; setenv \"\" b; setenv a -f; echo -n") ≡ (7, Warns OptionOfSetenv) ∷ (20, Warns OptionOfSetenv) ∷ []
unfolding step bare dollar braced inside front word_front
options = refl

-- the seventeenth word, and no other
sixteen : warnings_of (codes "e 1 2 3 4 5 6 7 8 9 a b c d e f g h; e 1 2 3 4 5 6 7 8 9 a b c d e f") ≡ (32, Warns ManyWords) ∷ []
unfolding step bare dollar braced inside front word_front
sixteen = refl

-- `${?}`, and names that the modern shell refuses
braces : warnings_of (codes "echo ${?} ${a.b} ${1a} ${a1} $?") ≡ (5, Warns StatusInBraces) ∷ (10, Warns OddName) ∷ (17, Warns OddName) ∷ []
unfolding step bare dollar braced inside front word_front
braces = refl

-- a digit and a sign after `$`, in double quotes too; not after a backslash and not in single quotes
parameters : warnings_of (codes "echo $1 \"$@\" $# $* $- \\$1 '$1' $$") ≡ (5, Warns SpecialParameter) ∷ (8, Warns SpecialParameter) ∷ (13, Warns SpecialParameter) ∷ (16, Warns SpecialParameter) ∷ (19, Warns SpecialParameter) ∷ []
unfolding step bare dollar braced inside front word_front
parameters = refl

-- outside quotes
parentheses : warnings_of (codes "echo a(b \"(c)\" '(d' \\(") ≡ (5, Warns Parenthesis) ∷ []
unfolding step bare dollar braced inside front word_front
parentheses = refl

-- a backslash before the end of a line in a word, in double quotes too
kept_line_end : warnings_of (codes "echo a\\\nb \"c\\\nd\" 'e\nf'") ≡ (5, Warns BackslashAtLineEnd) ∷ (10, Warns BackslashAtLineEnd) ∷ []
unfolding step bare dollar braced inside front word_front
kept_line_end = refl

-- a text that is no script has its warnings too
refused : warnings_of (codes "if a && b || c; fi; exit") ≡ (10, Warns MixedList) ∷ (20, Warns Exit) ∷ []
unfolding step bare dollar braced inside front word_front
refused = refl

-- up to where a token is refused
open_quote : warnings_of (codes "exit; echo \"exit; exit") ≡ (0, Warns Exit) ∷ []
unfolding step bare dollar braced inside front word_front
open_quote = refl

-- the words after blocks and conditions without a command
empty_blocks : blocks_of (codes "if a; then # b\nelse; fi; while; do c; done; until a; do; done") ≡ 15 ∷ 21 ∷ 32 ∷ 57 ∷ []
unfolding step bare dollar braced inside front word_front
empty_blocks = refl

-- a block that has one, a word of a command, and words out of place
full_blocks : blocks_of (codes "if a; then b; fi; echo then; fi; for i in; do c; done; do") ≡ []
unfolding step bare dollar braced inside front word_front
full_blocks = refl
