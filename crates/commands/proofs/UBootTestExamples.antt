-- Worked examples of `test` as U-Boot's shells find it, computed. Each is what a sandbox of U-Boot 2023.01 answers.
use Rattle.std.proofs.Common.{◌≡◌, Bool, true, false, List, [], ◌∷◌, map, eqb, refl}
use Rattle.std.specs.Prelude.{codes}
use Rattle.std.specs.List.{slice_split}
use Rattle.commands.specs.Verdict.{Text}
use Rattle.commands.specs.UBootTest.{Question, Nothing, File, Files, questions, question_of, truth_by}

-- the words between the spaces of a line; a space at the end makes an empty word
abbrev words : Text → List Text
words = slice_split (λ b. eqb b 32)

-- a line that asks for no file
abbrev says : Text → Bool
says line = truth_by [] (words line)

abbrev all_say : Bool → List Text → List Bool
all_say truth [] = []
all_say truth (line ∷ lines) = truth ∷ all_say truth lines

-- ---- fewer than two words do not hold

no_words : truth_by [] [] ≡ false
no_words = refl

abbrev one_word : List Text
one_word = codes "" ∷ codes "a" ∷ codes "-n" ∷ codes "-z" ∷ codes "!" ∷ codes "-a" ∷ codes "=" ∷ []

one_word_is_not_enough : map says one_word ≡ all_say false one_word
one_word_is_not_enough = refl

-- ---- words that U-Boot cannot read hold, whatever is before them

-- no term begins so
abbrev not_begun : List Text
not_begun =
    codes "= v" ∷ codes "a b" ∷ codes "! a" ∷ codes "! a b" ∷ codes "a -a" ∷ codes "a -o" ∷ codes "a == b"
    ∷ codes "a =~ b" ∷ codes "-x a" ∷ codes "1 -EQ 2" ∷ codes "( a = b )" ∷ codes "a = b c" ∷ codes "a = b = c"
    ∷ codes "a = b -a c" ∷ codes "-z a  " ∷ codes "a = b -b a = b" ∷ []

not_begun_holds : map says not_begun ≡ all_say true not_begun
not_begun_holds = refl

-- a term lacks words
abbrev cut_off : List Text
cut_off =
    codes "a =" ∷ codes "= =" ∷ codes "-z =" ∷ codes "! -eq" ∷ codes "1 -eq" ∷ codes "! -z" ∷ codes "-n  -n"
    ∷ codes "-z a -z" ∷ codes "a = b c =" ∷ codes "-e mmc" ∷ codes "-e mmc 0" ∷ codes "a = b -e mmc 0"
    ∷ codes "! -e mmc 0" ∷ []

cut_off_holds : map says cut_off ≡ all_say true cut_off
cut_off_holds = refl

-- ---- terms

-- an operator in second place makes a comparison, whatever the first word is
abbrev second_place : List Text
second_place =
    codes "= = =" ∷ codes "! = !" ∷ codes "-z = -z" ∷ codes "-n = -n" ∷ codes "-e = -e" ∷ codes "-a = -a"
    ∷ codes "-o != -a" ∷ codes " = " ∷ []

second_place_holds : map says second_place ≡ all_say true second_place
second_place_holds = refl

abbrev second_place_not : List Text
second_place_not = codes "! = a" ∷ codes "-z = -n" ∷ codes "-n = " ∷ codes "! = ! -a ! = a" ∷ codes "-z -eq 1" ∷ []

second_place_does_not : map says second_place_not ≡ all_say false second_place_not
second_place_does_not = refl

abbrev measured : List Text
measured = codes "-z " ∷ codes "-n a" ∷ codes "-n -n" ∷ codes "-n !" ∷ codes "-n -e" ∷ []

measured_holds : map says measured ≡ all_say true measured
measured_holds = refl

abbrev measured_not : List Text
measured_not = codes "-z a" ∷ codes "-n " ∷ codes "-z -z" ∷ []

measured_does_not : map says measured_not ≡ all_say false measured_not
measured_does_not = refl

-- ---- `!` turns the next term alone

abbrev turned : List Text
turned =
    codes "! a = b" ∷ codes "! -z a" ∷ codes "! ! a = a" ∷ codes "! ! ! -n " ∷ codes "a = a !"
    ∷ codes "! a = b -a a = a" ∷ codes "! -o a = b" ∷ []

turned_holds : map says turned ≡ all_say true turned
turned_holds = refl

abbrev turned_not : List Text
turned_not =
    codes "! a = a" ∷ codes "! -z " ∷ codes "! ! a = b" ∷ codes "! a = a -a b = b" ∷ codes "a = b !" ∷ codes "! !"
    ∷ codes "! -a a = b" ∷ []

turned_does_not : map says turned_not ≡ all_say false turned_not
turned_does_not = refl

-- ---- `-a` and `-o`, from the left

abbrev together : List Text
together =
    codes "a = a -a b = b" ∷ codes "a = b -o a = a" ∷ codes "a = a -o a = b" ∷ codes "-z  -o x = y"
    ∷ codes "a = b -a a = b -o a = a" ∷ codes "a = b -o ! a = b" ∷ codes "a = a -a ! a = b" ∷ []

together_holds : map says together ≡ all_say true together
together_holds = refl

abbrev together_not : List Text
together_not =
    codes "a = a -a b = c" ∷ codes "a = b -a a = a" ∷ codes "a = b -o a = c" ∷ codes "a = a -o a = b -a a = b"
    ∷ codes "-z a -o -n " ∷ codes "a = b -a ! a = b" ∷ []

together_does_not : map says together_not ≡ all_say false together_not
together_does_not = refl

-- with nothing between them the last term counts, and of several operators the last one; one at the end counts for
-- nothing, and one at the start is after what does not hold
abbrev loose : List Text
loose =
    codes "a = b a = a" ∷ codes "a = a -a" ∷ codes "a = a -o" ∷ codes "-o a = a" ∷ codes "a = a -a -o a = b"
    ∷ codes "a = b -a -o a = a" ∷ codes "-a a = a a = a" ∷ []

loose_holds : map says loose ≡ all_say true loose
loose_holds = refl

abbrev loose_not : List Text
loose_not =
    codes "a = a a = b" ∷ codes "a = b -a" ∷ codes "a = b -o" ∷ codes "-a a = a" ∷ codes "-o a = b"
    ∷ codes "a = a -o -a a = b" ∷ codes "a = b -o -a a = a" ∷ codes "-a -a" ∷ codes "-o -a" ∷ codes "-a !" ∷ []

loose_does_not : map says loose_not ≡ all_say false loose_not
loose_does_not = refl

-- ---- texts, byte by byte

abbrev texts : List Text
texts =
    codes "a = a" ∷ codes "a != b" ∷ codes "a < b" ∷ codes "a < ab" ∷ codes " < a" ∷ codes "10 < 9" ∷ codes "B < a"
    ∷ codes "b > a" ∷ codes "ab > a" ∷ codes "01 != 1" ∷ []

texts_hold : map says texts ≡ all_say true texts
texts_hold = refl

abbrev texts_not : List Text
texts_not =
    codes "a = b" ∷ codes "a != a" ∷ codes "b < a" ∷ codes "a < a" ∷ codes "a > b" ∷ codes "a > a" ∷ codes "01 = 1" ∷ []

texts_do_not : map says texts_not ≡ all_say false texts_not
texts_do_not = refl

-- ---- numbers

abbrev numbers : List Text
numbers =
    codes "1 -eq 01" ∷ codes "1 -ne 2" ∷ codes "9 -lt 10" ∷ codes "-5 -lt 3" ∷ codes "-3 -lt -2" ∷ codes "1 -le 1"
    ∷ codes "1 -le 2" ∷ codes "10 -gt 9" ∷ codes "0 -gt -1" ∷ codes "1 -ge 1" ∷ codes "2 -ge 1" ∷ []

numbers_hold : map says numbers ≡ all_say true numbers
numbers_hold = refl

abbrev numbers_not : List Text
numbers_not =
    codes "1 -eq 2" ∷ codes "1 -ne 01" ∷ codes "1 -lt 1" ∷ codes "0 -lt -1" ∷ codes "2 -le 1" ∷ codes "1 -gt 1"
    ∷ codes "9 -gt 10" ∷ codes "1 -ge 2" ∷ codes "-2 -ge -1" ∷ []

numbers_do_not : map says numbers_not ≡ all_say false numbers_not
numbers_do_not = refl

-- how a number is read: its base, its end, its sign
abbrev readings : List Text
readings =
    codes "0x10 -eq 16" ∷ codes "0X1f -eq 31" ∷ codes "0xFFg -eq 255" ∷ codes "010 -eq 8" ∷ codes "019 -eq 1"
    ∷ codes "08 -eq 0" ∷ codes "0x -eq 0" ∷ codes "0xg -eq 0" ∷ codes "12a -eq 12" ∷ codes "-010 -eq -8"
    ∷ codes "-0x10 -eq -16" ∷ codes "-0 -eq 0" ∷ codes "- -eq 0" ∷ codes "--1 -eq 0" ∷ codes "+1 -eq 0"
    ∷ codes "a -eq 0" ∷ codes " -eq 0" ∷ []

each_is_read : map says readings ≡ all_say true readings
each_is_read = refl

-- 64 bits that wrap
abbrev wrapped : List Text
wrapped =
    codes "9223372036854775807 -gt 0" ∷ codes "9223372036854775808 -lt 0"
    ∷ codes "9223372036854775808 -eq -9223372036854775808" ∷ codes "0xffffffffffffffff -eq -1"
    ∷ codes "18446744073709551616 -eq 0" ∷ codes "36893488147419103233 -eq 1"
    ∷ codes "-9223372036854775809 -eq 9223372036854775807" ∷ codes "-18446744073709551615 -eq 1"
    ∷ codes "-0x8000000000000000 -lt 0" ∷ []

each_wraps : map says wrapped ≡ all_say true wrapped
each_wraps = refl

negative_by_its_size : says (codes "9223372036854775808 -gt 0") ≡ false
negative_by_its_size = refl

-- ---- files

-- evaluation does not stop early, so what is asked depends on the words alone
abbrev lines_that_ask : List Text
lines_that_ask =
    codes "-e mmc 0 f" ∷ codes "! -e mmc 0 f" ∷ codes "-z a -a -e mmc 0 f" ∷ codes "-z  -o -e mmc 0 f"
    ∷ codes "a = b -e mmc 0 f" ∷ codes "-e mmc 0 f a" ∷ codes "-e mmc 0 f -a" ∷ []

abbrev each_asks : List Text → List (List (List Text))
each_asks [] = []
each_asks (line ∷ lines) = (words (codes "mmc 0 f") ∷ []) ∷ each_asks lines

one_file : map (λ line. questions (words line)) lines_that_ask ≡ each_asks lines_that_ask
one_file = refl

abbrev lines_that_do_not : List Text
lines_that_do_not =
    codes "-e mmc 0" ∷ codes "-e = mmc 0 f" ∷ codes "-e -eq 0 f" ∷ codes "-n -e mmc 0 f" ∷ codes "a b -a -e mmc 0 f"
    ∷ codes "a = b c -e mmc 0 f" ∷ codes "-e" ∷ []

abbrev none_asks : List Text → List (List (List Text))
none_asks [] = []
none_asks (line ∷ lines) = [] ∷ none_asks lines

no_file : map (λ line. questions (words line)) lines_that_do_not ≡ none_asks lines_that_do_not
no_file = refl

abbrev asked : Text → Question
asked line = question_of (questions (words line))

nothing_to_ask : asked (codes "a = b") ≡ Nothing
nothing_to_ask = refl

a_file_to_ask : asked (codes "! -e mmc 0:1 /a") ≡ File (words (codes "mmc 0:1 /a"))
a_file_to_ask = refl

two_files_to_ask : asked (codes "-e mmc 0 f -o -e usb 1 g") ≡ Files
two_files_to_ask = refl

-- what each line says if the file is there, and if it is not
abbrev found_or_not : Text → List Bool
found_or_not line = truth_by (true ∷ []) (words line) ∷ truth_by (false ∷ []) (words line) ∷ []

file : found_or_not (codes "-e mmc 0 f") ≡ true ∷ false ∷ []
file = refl

no_file_turned : found_or_not (codes "! -e mmc 0 f") ≡ false ∷ true ∷ []
no_file_turned = refl

file_and : found_or_not (codes "a = b -a -e mmc 0 f") ≡ false ∷ false ∷ []
file_and = refl

file_or : found_or_not (codes "-e mmc 0 f -o a = a") ≡ true ∷ true ∷ []
file_or = refl

file_and_word : found_or_not (codes "-e mmc 0 f a") ≡ true ∷ true ∷ []
file_and_word = refl

-- two files, each with its answer
abbrev by_each : Text → List Bool
by_each line =
    truth_by (true ∷ true ∷ []) (words line)
    ∷ truth_by (true ∷ false ∷ []) (words line)
    ∷ truth_by (false ∷ true ∷ []) (words line)
    ∷ truth_by (false ∷ false ∷ []) (words line)
    ∷ []

both_files : by_each (codes "-e mmc 0 f -a -e usb 1 g") ≡ true ∷ false ∷ false ∷ false ∷ []
both_files = refl

first_and_not_second : by_each (codes "-e mmc 0 f -a ! -e usb 1 g") ≡ false ∷ true ∷ false ∷ false ∷ []
first_and_not_second = refl

either_file : by_each (codes "-e mmc 0 f -o -e usb 1 g") ≡ true ∷ true ∷ true ∷ false ∷ []
either_file = refl

last_file_counts : by_each (codes "-e mmc 0 f -e usb 1 g") ≡ true ∷ false ∷ true ∷ false ∷ []
last_file_counts = refl

-- a file without an answer is not there
no_answer : truth_by [] (words (codes "-e mmc 0 f")) ≡ false
no_answer = refl
