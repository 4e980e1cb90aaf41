-- Worked examples, computed: the result of the words of computed calls, and what that does.
use Rattle.std.proofs.Common.{◌≡◌, ℕ, List, [], ◌∷◌, Option, Some, None, codes, refl}
use Rattle.std.specs.Fmt.{digits}
use Rattle.rehearse_terms.specs.State.{Text, Variables}
use Rattle.commands.specs.KnownCommands.{Env, Itest, SetExpr}
use Rattle.commands.specs.Computed.{Computed, Gives, Exists, Sets, Deletes, SetsNumber, computes}
use Rattle.commands.specs.BuiltInCommands.{carried}
use Rattle.commands.specs.Hexadecimal.{hexadecimal}

abbrev word : Text → List Text
word text = text ∷ []

-- ---- `env`

exists : computes Env (codes "exists" ∷ word (codes "a")) ≡ Some (Exists (codes "a"))
exists = refl

-- further words are not looked at, a name is no option, and without a name the status is 1
exists_further : computes Env (codes "exists" ∷ codes "-f" ∷ word (codes "b")) ≡ Some (Exists (codes "-f"))
exists_further = refl

exists_nothing : computes Env (word (codes "exists")) ≡ Some (Gives 1)
exists_nothing = refl

no_subcommand : computes Env [] ≡ Some (Gives 1)
no_subcommand = refl

-- other subcommands are not computed, nor is a prefix of one
other_subcommand : computes Env (codes "default" ∷ word (codes "-a")) ≡ None
other_subcommand = refl

prefix_of_a_subcommand : computes Env (codes "exist" ∷ word (codes "a")) ≡ None
prefix_of_a_subcommand = refl

set : computes Env (codes "set" ∷ codes "a" ∷ word (codes "1")) ≡ Some (Sets (codes "a" ∷ word (codes "1")))
set = refl

-- options in front are `-f`; another letter gives status 1; options after a name are names
set_forced : computes Env (codes "set" ∷ codes "-f" ∷ codes "-" ∷ codes "-ff" ∷ word (codes "a")) ≡ Some (Sets (word (codes "a")))
set_forced = refl

set_other_option : computes Env (codes "set" ∷ codes "-fe" ∷ word (codes "a")) ≡ Some (Gives 1)
set_other_option = refl

delete : computes Env (codes "delete" ∷ codes "a" ∷ word (codes "-f")) ≡ Some (Deletes (codes "a" ∷ word (codes "-f")))
delete = refl

delete_forced : computes Env (codes "delete" ∷ codes "-f" ∷ codes "a" ∷ word (codes "b")) ≡ Some (Deletes (codes "a" ∷ word (codes "b")))
delete_forced = refl

delete_other_option : computes Env (codes "delete" ∷ codes "-x" ∷ word (codes "a")) ≡ Some (Gives 1)
delete_other_option = refl

abbrev two : Variables
two = (codes "a", codes "1") ∷ (codes "b", codes "2") ∷ []

is_set : carried (Exists (codes "b")) two ≡ (two, 0)
is_set = refl

is_not_set : carried (Exists (codes "c")) two ≡ (two, 1)
is_not_set = refl

sets_a_variable : carried (Sets (codes "b" ∷ codes "3" ∷ word (codes "4"))) two ≡ ((codes "a", codes "1") ∷ (codes "b", codes "3 4") ∷ [], 0)
sets_a_variable = refl

deletes_both : carried (Deletes (codes "a" ∷ word (codes "b"))) two ≡ ([], 0)
deletes_both = refl

-- one that is not set gives status 1, and the others are deleted
deletes_what_is_there : carried (Deletes (codes "c" ∷ word (codes "a"))) two ≡ ((codes "b", codes "2") ∷ [], 1)
deletes_what_is_there = refl

deletes_once : carried (Deletes (codes "a" ∷ word (codes "a"))) two ≡ ((codes "b", codes "2") ∷ [], 1)
deletes_once = refl

deletes_nothing : carried (Deletes []) two ≡ (two, 0)
deletes_nothing = refl

-- ---- numbers

hexadecimal_digits : hexadecimal (codes "1fA") ≡ 506
hexadecimal_digits = refl

behind_0x : hexadecimal (codes "0x10") ≡ 16
behind_0x = refl

behind_0X : hexadecimal (codes "0X10") ≡ 16
behind_0X = refl

up_to_no_digit : hexadecimal (codes "12g4") ≡ 18
up_to_no_digit = refl

no_digit : hexadecimal (codes "-1") ≡ 0
no_digit = refl

prefix_alone : hexadecimal (codes "0x") ≡ 0
prefix_alone = refl

prefix_twice : hexadecimal (codes "0x0x1") ≡ 0
prefix_twice = refl

-- in 64 bits
lowest_bits : hexadecimal (codes "120000000000000003") ≡ 3
lowest_bits = refl

-- ---- `itest`

abbrev compare : Text → Text → Text → Option Computed
compare a operator b = computes Itest (a ∷ operator ∷ word b)

equal : compare (codes "10") (codes "==") (codes "0x10") ≡ Some (Gives 0)
equal = refl

equal_by_letters : compare (codes "a") (codes "-eq") (codes "A") ≡ Some (Gives 0)
equal_by_letters = refl

not_equal : compare (codes "1") (codes "-ne") (codes "1") ≡ Some (Gives 1)
not_equal = refl

not_equal_by_sign : compare (codes "1") (codes "!=") (codes "2") ≡ Some (Gives 0)
not_equal_by_sign = refl

not_equal_by_angles : compare (codes "1") (codes "<>") (codes "2") ≡ Some (Gives 0)
not_equal_by_angles = refl

-- by value, and not by digits
less : compare (codes "9") (codes "-lt") (codes "10") ≡ Some (Gives 0)
less = refl

less_by_sign : compare (codes "2") (codes "<") (codes "2") ≡ Some (Gives 1)
less_by_sign = refl

less_by_sign_here : compare (codes "1") (codes "<") (codes "2") ≡ Some (Gives 0)
less_by_sign_here = refl

at_most : compare (codes "2") (codes "<=") (codes "2") ≡ Some (Gives 0)
at_most = refl

at_most_by_letters_here : compare (codes "1") (codes "-le") (codes "2") ≡ Some (Gives 0)
at_most_by_letters_here = refl

at_most_by_letters : compare (codes "3") (codes "-le") (codes "2") ≡ Some (Gives 1)
at_most_by_letters = refl

greater : compare (codes "10") (codes ">") (codes "9") ≡ Some (Gives 0)
greater = refl

greater_by_letters : compare (codes "9") (codes "-gt") (codes "9") ≡ Some (Gives 1)
greater_by_letters = refl

greater_by_letters_here : compare (codes "2") (codes "-gt") (codes "1") ≡ Some (Gives 0)
greater_by_letters_here = refl

at_least : compare (codes "9") (codes ">=") (codes "9") ≡ Some (Gives 0)
at_least = refl

at_least_by_letters : compare (codes "8") (codes "-ge") (codes "9") ≡ Some (Gives 1)
at_least_by_letters = refl

at_least_by_letters_here : compare (codes "9") (codes "-ge") (codes "8") ≡ Some (Gives 0)
at_least_by_letters_here = refl

-- what an operator says of a smaller number, an equal one and a greater one
abbrev statuses : (operator : Text) → List (Option Computed)
statuses operator =
    compare (codes "1") operator (codes "2")
    ∷ compare (codes "2") operator (codes "2")
    ∷ compare (codes "3") operator (codes "2")
    ∷ []

abbrev gives_each : ℕ → ℕ → ℕ → List (Option Computed)
gives_each smaller equal greater = Some (Gives smaller) ∷ Some (Gives equal) ∷ Some (Gives greater) ∷ []

each_less : statuses (codes "-lt") ≡ gives_each 0 1 1
each_less = refl

each_less_by_sign : statuses (codes "<") ≡ gives_each 0 1 1
each_less_by_sign = refl

each_greater : statuses (codes "-gt") ≡ gives_each 1 1 0
each_greater = refl

each_greater_by_sign : statuses (codes ">") ≡ gives_each 1 1 0
each_greater_by_sign = refl

each_at_least : statuses (codes "-ge") ≡ gives_each 1 0 0
each_at_least = refl

each_at_least_by_sign : statuses (codes ">=") ≡ gives_each 1 0 0
each_at_least_by_sign = refl

each_at_most : statuses (codes "-le") ≡ gives_each 0 0 1
each_at_most = refl

each_at_most_by_sign : statuses (codes "<=") ≡ gives_each 0 0 1
each_at_most_by_sign = refl

each_equal : statuses (codes "-eq") ≡ gives_each 1 0 1
each_equal = refl

each_equal_by_sign : statuses (codes "==") ≡ gives_each 1 0 1
each_equal_by_sign = refl

each_unequal : statuses (codes "-ne") ≡ gives_each 0 1 0
each_unequal = refl

each_unequal_by_sign : statuses (codes "!=") ≡ gives_each 0 1 0
each_unequal_by_sign = refl

each_unequal_by_angles : statuses (codes "<>") ≡ gives_each 0 1 0
each_unequal_by_angles = refl

-- 32 bits, without a sign
lowest_32_bits : compare (codes "100000001") (codes "==") (codes "1") ≡ Some (Gives 0)
lowest_32_bits = refl

no_sign : compare (codes "ffffffff") (codes ">") (codes "1") ≡ Some (Gives 0)
no_sign = refl

unknown_operator : compare (codes "1") (codes "=") (codes "1") ≡ Some (Gives 1)
unknown_operator = refl

memory_is_not_read : compare (codes "*1000") (codes "==") (codes "0") ≡ None
memory_is_not_read = refl

-- an operator that is not known decides before that
memory_and_unknown_operator : compare (codes "*1") (codes "!") (codes "2") ≡ Some (Gives 1)
memory_and_unknown_operator = refl

unknown_operator_and_memory : compare (codes "1") (codes "!") (codes "*2") ≡ Some (Gives 1)
unknown_operator_and_memory = refl

nor_on_the_right : compare (codes "0") (codes "==") (codes "*1000") ≡ None
nor_on_the_right = refl

too_few_words : computes Itest (codes "1" ∷ word (codes "==")) ≡ Some (Gives 1)
too_few_words = refl

-- the number of words decides first
memory_and_too_few_words : computes Itest (codes "*1" ∷ word (codes "==")) ≡ Some (Gives 1)
memory_and_too_few_words = refl

too_many_words : computes Itest (codes "1" ∷ codes "==" ∷ codes "1" ∷ word (codes "1")) ≡ Some (Gives 1)
too_many_words = refl

-- ---- `setexpr`

abbrev calculate : Text → Text → Text → Option Computed
calculate a operator b = computes SetExpr (codes "x" ∷ a ∷ operator ∷ word b)

abbrev gives_number : ℕ → Option Computed
gives_number n = Some (SetsNumber (codes "x") n)

assigned : computes SetExpr (codes "x" ∷ word (codes "0x1F")) ≡ gives_number 31
assigned = refl

added : calculate (codes "9") (codes "+") (codes "9") ≡ gives_number 18
added = refl

added_in_64_bits : calculate (codes "ffffffffffffffff") (codes "+") (codes "2") ≡ gives_number 1
added_in_64_bits = refl

subtracted : calculate (codes "9") (codes "-") (codes "8") ≡ gives_number 1
subtracted = refl

below_0 : calculate (codes "0") (codes "-") (codes "1") ≡ gives_number 18446744073709551615
below_0 = refl

multiplied : calculate (codes "10") (codes "*") (codes "10") ≡ gives_number 256
multiplied = refl

divided : calculate (codes "11") (codes "/") (codes "2") ≡ gives_number 8
divided = refl

remainder_left : calculate (codes "11") (codes "%") (codes "2") ≡ gives_number 1
remainder_left = refl

both_bits : calculate (codes "c") (codes "&") (codes "a") ≡ gives_number 8
both_bits = refl

either_bit : calculate (codes "c") (codes "|") (codes "a") ≡ gives_number 14
either_bit = refl

one_bit : calculate (codes "c") (codes "^") (codes "a") ≡ gives_number 6
one_bit = refl

-- of these operands, each operation gives another number
each_added : calculate (codes "d") (codes "+") (codes "6") ≡ gives_number 19
each_added = refl

each_subtracted : calculate (codes "d") (codes "-") (codes "6") ≡ gives_number 7
each_subtracted = refl

each_multiplied : calculate (codes "d") (codes "*") (codes "6") ≡ gives_number 78
each_multiplied = refl

each_divided : calculate (codes "d") (codes "/") (codes "6") ≡ gives_number 2
each_divided = refl

each_remainder : calculate (codes "d") (codes "%") (codes "6") ≡ gives_number 1
each_remainder = refl

each_both : calculate (codes "d") (codes "&") (codes "6") ≡ gives_number 4
each_both = refl

each_either : calculate (codes "d") (codes "|") (codes "6") ≡ gives_number 15
each_either = refl

each_one : calculate (codes "d") (codes "^") (codes "6") ≡ gives_number 11
each_one = refl

-- by 0 nothing is divided, and no memory is read
divided_by_0 : calculate (codes "1") (codes "/") (codes "0") ≡ None
divided_by_0 = refl

remainder_by_0 : calculate (codes "1") (codes "%") (codes "0") ≡ None
remainder_by_0 = refl

from_memory : calculate (codes "*1") (codes "+") (codes "1") ≡ None
from_memory = refl

with_memory : calculate (codes "1") (codes "+") (codes "*1") ≡ None
with_memory = refl

memory_alone : computes SetExpr (codes "x" ∷ word (codes "*1")) ≡ None
memory_alone = refl

unknown_operation : calculate (codes "1") (codes "@") (codes "1") ≡ Some (Gives 1)
unknown_operation = refl

unknown_operation_twice : calculate (codes "1") (codes "**") (codes "1") ≡ Some (Gives 1)
unknown_operation_twice = refl

no_operator : calculate (codes "1") [] (codes "1") ≡ Some (Gives 1)
no_operator = refl

-- an operator of another length decides before the second operand is read, and another byte only after that
twice_and_memory : calculate (codes "1") (codes "++") (codes "*1") ≡ Some (Gives 1)
twice_and_memory = refl

unknown_and_memory : calculate (codes "1") (codes "@") (codes "*1") ≡ None
unknown_and_memory = refl

memory_and_twice : calculate (codes "*1") (codes "++") (codes "1") ≡ None
memory_and_twice = refl

-- ---- `setexpr` by its number of words, which are counted when the first operand was read

no_word : computes SetExpr [] ≡ Some (Gives 1)
no_word = refl

name_alone : computes SetExpr (word (codes "x")) ≡ Some (Gives 1)
name_alone = refl

abbrev words_behind : (first : Text) → List Text → Option Computed
words_behind first words = computes SetExpr (codes "x" ∷ first ∷ words)

three_words : words_behind (codes "1") (word (codes "+")) ≡ Some (Gives 1)
three_words = refl

-- a counter that is not set yet: `setexpr n $n + 1`
counter_not_set : words_behind (codes "+") (word (codes "1")) ≡ Some (Gives 1)
counter_not_set = refl

three_words_and_memory : words_behind (codes "*1") (word (codes "+")) ≡ None
three_words_and_memory = refl

-- only the first operand is read then
three_words_and_memory_behind : words_behind (codes "1") (word (codes "*1")) ≡ Some (Gives 1)
three_words_and_memory_behind = refl

five_words : words_behind (codes "1") (codes "+" ∷ codes "1" ∷ word (codes "1")) ≡ Some (Gives 1)
five_words = refl

five_words_and_memory : words_behind (codes "*1") (codes "+" ∷ codes "1" ∷ word (codes "1")) ≡ None
five_words_and_memory = refl

five_words_and_memory_behind : words_behind (codes "1") (codes "+" ∷ codes "*1" ∷ word (codes "1")) ≡ Some (Gives 1)
five_words_and_memory_behind = refl

abbrev four : List Text
four = codes "+" ∷ codes "1" ∷ codes "+" ∷ word (codes "1")

six_words : words_behind (codes "1") four ≡ Some (Gives 1)
six_words = refl

six_words_and_memory : words_behind (codes "*1") four ≡ None
six_words_and_memory = refl

seven_words : words_behind (codes "1") (codes "2" ∷ four) ≡ Some (Gives 1)
seven_words = refl

seven_words_and_memory : words_behind (codes "*1") (codes "2" ∷ four) ≡ None
seven_words_and_memory = refl

-- more words are refused before `setexpr` begins
eight_words : words_behind (codes "1") (codes "2" ∷ codes "3" ∷ four) ≡ Some (Gives 1)
eight_words = refl

eight_words_and_memory : words_behind (codes "*1") (codes "2" ∷ codes "3" ∷ four) ≡ Some (Gives 1)
eight_words_and_memory = refl

-- ---- the words of `setexpr` that make texts

text_replaced : calculate (codes "sub") (codes "a") (codes "b") ≡ None
text_replaced = refl

text_replaced_everywhere : calculate (codes "gsub") (codes "a") (codes "b") ≡ None
text_replaced_everywhere = refl

-- five words are a text, its parts and another text
other_text_replaced : words_behind (codes "sub") (codes "a" ∷ codes "b" ∷ word (codes "t")) ≡ None
other_text_replaced = refl

other_text_replaced_everywhere : words_behind (codes "gsub") (codes "a" ∷ codes "b" ∷ word (codes "t")) ≡ None
other_text_replaced_everywhere = refl

-- any other number of words is that of a call with a number: `sub` and `gsub` start with no digit
replaced_by_nothing : words_behind (codes "sub") [] ≡ gives_number 0
replaced_by_nothing = refl

replaced_everywhere_by_nothing : words_behind (codes "gsub") [] ≡ gives_number 0
replaced_everywhere_by_nothing = refl

three_words_of_a_text : words_behind (codes "sub") (word (codes "a")) ≡ Some (Gives 1)
three_words_of_a_text = refl

three_words_everywhere : words_behind (codes "gsub") (word (codes "a")) ≡ Some (Gives 1)
three_words_everywhere = refl

six_words_of_a_text : words_behind (codes "sub") four ≡ Some (Gives 1)
six_words_of_a_text = refl

-- a board without formats takes `fmt` for the number f
text_formatted : words_behind (codes "fmt") [] ≡ None
text_formatted = refl

text_formatted_of_nothing : words_behind (codes "fmt") (word (codes "%d")) ≡ None
text_formatted_of_nothing = refl

text_formatted_of_one : words_behind (codes "fmt") (codes "%d" ∷ word (codes "1")) ≡ None
text_formatted_of_one = refl

text_formatted_of_four : words_behind (codes "fmt") (codes "%d" ∷ four) ≡ None
text_formatted_of_four = refl

text_formatted_of_five : words_behind (codes "fmt") (codes "%d" ∷ codes "1" ∷ four) ≡ Some (Gives 1)
text_formatted_of_five = refl

-- ---- names that `setexpr` cannot set

-- U-Boot refuses a name with `=`, with status 1; after an operation the status is 0 all the same
equals_in_name : computes SetExpr (codes "a=b" ∷ word (codes "1")) ≡ Some (Gives 1)
equals_in_name = refl

equals_in_front : computes SetExpr (codes "=" ∷ word (codes "1")) ≡ Some (Gives 1)
equals_in_front = refl

equals_in_name_after_operation : computes SetExpr (codes "a=b" ∷ codes "1" ∷ codes "+" ∷ word (codes "1")) ≡ Some (Gives 0)
equals_in_name_after_operation = refl

-- it sets an empty name, and takes a minus for an option
empty_name : computes SetExpr ([] ∷ word (codes "1")) ≡ None
empty_name = refl

bad_name : computes SetExpr (codes "-x" ∷ word (codes "1")) ≡ None
bad_name = refl

bad_name_after_operation : computes SetExpr (codes "-x" ∷ codes "1" ∷ codes "+" ∷ word (codes "1")) ≡ None
bad_name_after_operation = refl

-- the operator and the number of words decide before the name
bad_name_and_unknown_operation : computes SetExpr (codes "-x" ∷ codes "1" ∷ codes "!" ∷ word (codes "2")) ≡ Some (Gives 1)
bad_name_and_unknown_operation = refl

bad_name_and_three_words : computes SetExpr (codes "-x" ∷ codes "1" ∷ word (codes "+")) ≡ Some (Gives 1)
bad_name_and_three_words = refl

-- in hexadecimal, without `0x` and with small letters
sets_hexadecimal : carried (SetsNumber (codes "c") 31) two ≡ ((codes "a", codes "1") ∷ (codes "b", codes "2") ∷ (codes "c", codes "1f") ∷ [], 0)
unfolding digits
sets_hexadecimal = refl

sets_0 : carried (SetsNumber (codes "b") 0) two ≡ ((codes "a", codes "1") ∷ (codes "b", codes "0") ∷ [], 0)
unfolding digits
sets_0 = refl
