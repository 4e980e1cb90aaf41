-- Worked examples of `test`, computed.
use Rattle.std.proofs.Common.{◌≡◌, Bool, true, false, List, [], ◌∷◌, map, eqb, refl}
use Rattle.std.specs.Prelude.{codes}
use Rattle.std.specs.List.{slice_split}
use Rattle.commands.specs.Verdict.{Text, verdict}

-- the words between the spaces of a line; a space at the end makes an empty word
abbrev says : Text → Bool
says line = verdict (slice_split (λ b. eqb b 32) line)

abbrev all_say : Bool → List Text → List Bool
all_say truth [] = []
all_say truth (line ∷ lines) = truth ∷ all_say truth lines

no_words : verdict [] ≡ false
no_words = refl

-- ---- lists of words that are not a test, and others that are

abbrev untrue : List Text
untrue = codes "a" ∷ codes "-n" ∷ codes "a =" ∷ codes "a = a -a" ∷ codes "! a = a" ∷ codes "9 < 10" ∷ codes "10 -lt 9" ∷ codes "-e mmc 0:1 /a" ∷ []

untrue_ones : map says untrue ≡ all_say false untrue
untrue_ones = refl

abbrev true_lines : List Text
true_lines = codes "! -z a" ∷ codes "! = !" ∷ codes "-n = -n" ∷ codes "! ! -n a" ∷ codes "b > a" ∷ codes "0x -eq 0" ∷ codes "08 -eq 0" ∷ codes "- -eq 0" ∷ codes "-0x10 -eq -16" ∷ codes "99999999999999999999 -eq 9223372036854775807" ∷ []

true_ones : map says true_lines ≡ all_say true true_lines
true_ones = refl

-- an empty word in quotes stays, and an unset variable makes no word
unset_variable : verdict (codes "-n" ∷ [] ∷ codes "-a" ∷ codes "=" ∷ codes "1" ∷ []) ≡ false
unset_variable = refl

-- ---- one word tested: whether it is empty

abbrev measured_true : List Text
measured_true = codes "-n a" ∷ codes "-z " ∷ codes "! -n " ∷ codes "-n -z" ∷ codes "-n !" ∷ []

measured_true_ones : map says measured_true ≡ all_say true measured_true
measured_true_ones = refl

abbrev measured_false : List Text
measured_false = codes "-n " ∷ codes "-z a" ∷ codes "! -n a" ∷ codes "! -z " ∷ codes "! -n" ∷ codes "! a" ∷ codes "-z" ∷ codes "!" ∷ codes "" ∷ codes "-x a" ∷ []

measured_false_ones : map says measured_false ≡ all_say false measured_false
measured_false_ones = refl

-- ---- every comparison

abbrev texts_true : List Text
texts_true = codes "a = a" ∷ codes "a != b" ∷ codes "a < b" ∷ codes "a < ab" ∷ codes "10 < 9" ∷ codes "B < a" ∷ codes "b > a" ∷ codes "ab > a" ∷ codes "-e = -e" ∷ codes " = " ∷ codes " < a" ∷ codes "01 != 1" ∷ []

texts_true_ones : map says texts_true ≡ all_say true texts_true
texts_true_ones = refl

abbrev texts_false : List Text
texts_false = codes "a = b" ∷ codes "a != a" ∷ codes "b < a" ∷ codes "a < a" ∷ codes "a > b" ∷ codes "a > a" ∷ codes "01 = 1" ∷ codes "a == a" ∷ codes "a =~ a" ∷ []

texts_false_ones : map says texts_false ≡ all_say false texts_false
texts_false_ones = refl

abbrev numbers_true : List Text
numbers_true =
    codes "1 -eq 01" ∷ codes "1 -ne 2" ∷ codes "9 -lt 10" ∷ codes "-1 -lt 0" ∷ codes "-3 -lt -2" ∷ codes "1 -le 1" ∷ codes "1 -le 2"
    ∷ codes "10 -gt 9" ∷ codes "0 -gt -1" ∷ codes "1 -ge 1" ∷ codes "2 -ge 1" ∷ []

numbers_true_ones : map says numbers_true ≡ all_say true numbers_true
numbers_true_ones = refl

abbrev numbers_false : List Text
numbers_false =
    codes "1 -eq 2" ∷ codes "1 -ne 01" ∷ codes "1 -lt 1" ∷ codes "0 -lt -1" ∷ codes "2 -le 1" ∷ codes "1 -gt 1" ∷ codes "9 -gt 10" ∷ codes "1 -ge 2"
    ∷ codes "-2 -ge -1" ∷ codes "1 -EQ 1" ∷ []

numbers_false_ones : map says numbers_false ≡ all_say false numbers_false
numbers_false_ones = refl

-- ---- how a number is read: its base, its end, its limits

abbrev readings : List Text
readings =
    codes "0x10 -eq 16" ∷ codes "0X1f -eq 31" ∷ codes "0xFFg -eq 255" ∷ codes "010 -eq 8" ∷ codes "019 -eq 1" ∷ codes "0xg -eq 0" ∷ codes "12a -eq 12"
    ∷ codes "-5 -eq -5" ∷ codes "-010 -eq -8" ∷ codes "-0 -eq 0" ∷ codes "--1 -eq 0" ∷ codes "+1 -eq 0" ∷ codes "a -eq 0" ∷ codes " -eq 0"
    ∷ codes "9223372036854775807 -gt 9223372036854775806" ∷ codes "9223372036854775808 -eq 9223372036854775807" ∷ codes "0x8000000000000000 -eq 9223372036854775807"
    ∷ codes "-9223372036854775808 -lt -9223372036854775807" ∷ codes "-9223372036854775809 -eq -9223372036854775808" ∷ codes "18446744073709551616 -eq 9223372036854775807"
    ∷ codes "-99999999999999999999 -eq -9223372036854775808" ∷ []

each_is_read : map says readings ≡ all_say true readings
each_is_read = refl

-- ---- combined terms: the same rank, from the left, with no word left over

abbrev combined_true : List Text
combined_true = codes "a = b -a a = b -o a = a" ∷ codes "-n a -o -n " ∷ codes "-n a -a ! -z a" ∷ codes "0x10 -eq 16 -a 010 -eq 8 -a -3 -lt 2z" ∷ codes "-z a -o -a = -a" ∷ []

combined_true_ones : map says combined_true ≡ all_say true combined_true
combined_true_ones = refl

abbrev combined_false : List Text
combined_false =
    codes "a = a -o a = b -a a = b" ∷ codes "-n a -a -n " ∷ codes "-z a -o -n " ∷ codes "a = a b" ∷ codes "a = a -o" ∷ codes "a = a -x a = a" ∷ codes "a = a a = a"
    ∷ codes "-n a -o -e mmc 0:1 /a" ∷ codes "-a" ∷ codes "-o a = a" ∷ []

combined_false_ones : map says combined_false ≡ all_say false combined_false
combined_false_ones = refl
