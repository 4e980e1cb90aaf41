-- Worked examples of what a list says of the start of a board, computed.
use Rattle.std.proofs.Common.{◌≡◌, false, List, [], ◌∷◌, ◌++◌, Some, None, Ok, Err, codes, refl}
use Rattle.envimage.specs.Data.{Pair}
use Rattle.envtools.specs.Changes.{with_changes}
use Rattle.device_list.specs.DeviceList.{Effects, only}
use Rattle.device_list.specs.DeviceLaws.{quiet}
use Rattle.device_list.specs.declared.devices_error.DevicesError.TheVariants.{BadLine}
use Rattle.board_start.specs.StartLines.{Given, Before, Faulty, Other, said, without_start}
use Rattle.board_start.specs.Start.{Start, no_start, start_of, choices, chosen, given_line, place_of, begun, after_said}
use Rattle.board_start.specs.Boards.{board_of, text_alone, OfDevices}
use Rattle.board_start.specs.declared.start_error.StartError.TheVariants.{TooMany, Alternatives, NoAlternative, Name}

-- ---- lines

given_value : said (codes "given boot_device=mmc") ≡ Given (codes "boot_device") (codes "mmc")
given_value = refl

-- blanks are between words, and around the line
given_behind_tabs : said (codes " \tgiven \t a=b \r") ≡ Given (codes "a") (codes "b")
given_behind_tabs = refl

-- the first `=` ends the name
given_further_equals : said (codes "given bootargs=root=/dev/sda") ≡ Given (codes "bootargs") (codes "root=/dev/sda")
given_further_equals = refl

given_nothing : said (codes "given a=") ≡ Given (codes "a") []
given_nothing = refl

-- a value is read as the shell reads single quotes
given_quoted : said (codes "given a='b c'd''") ≡ Given (codes "a") (codes "b cd")
given_quoted = refl

-- a value with a blank outside quotes, and one with a quote that is not closed
given_two_words : said (codes "given a=b c") ≡ Faulty
given_two_words = refl

given_open_quote : said (codes "given a='b") ≡ Faulty
given_open_quote = refl

-- names that no variable has
given_no_name : said (codes "given =b") ≡ Faulty
given_no_name = refl

given_minus : said (codes "given -a=b") ≡ Faulty
given_minus = refl

given_quoted_name : said (codes "given 'a'=b") ≡ Faulty
given_quoted_name = refl

given_nul : said (codes "given a=" ++ 0 ∷ []) ≡ Faulty
given_nul = refl

-- a command may be called `given`
given_alone : said (codes "given") ≡ Other
given_alone = refl

given_word : said (codes "given a b=c") ≡ Other
given_word = refl

given_steady : said (codes "steady given a=b") ≡ Other
given_steady = refl

given_longer : said (codes "givens a=b") ≡ Other
given_longer = refl

given_comment : said (codes "# given a=b") ≡ Other
given_comment = refl

before_name : said (codes "before preboot") ≡ Before (codes "preboot")
before_name = refl

before_all_bytes : said (codes "before aZ0_-.9") ≡ Before (codes "aZ0_-.9")
before_all_bytes = refl

-- names that `run` does not take as they are
before_minus : said (codes "before -a") ≡ Faulty
before_minus = refl

before_dollar : said (codes "before $a") ≡ Faulty
before_dollar = refl

before_slash : said (codes "before a/b") ≡ Faulty
before_slash = refl

before_at_sign : said (codes "before a@b") ≡ Faulty
before_at_sign = refl

before_bracket : said (codes "before a[b") ≡ Faulty
before_bracket = refl

before_brace : said (codes "before a{b") ≡ Faulty
before_brace = refl

before_colon : said (codes "before a:b") ≡ Faulty
before_colon = refl

before_backquote : said (codes "before a`b") ≡ Faulty
before_backquote = refl

before_quoted : said (codes "before 'a'") ≡ Faulty
before_quoted = refl

-- a command may be called `before`
before_alone : said (codes "before") ≡ Other
before_alone = refl

before_setting : said (codes "before a=b") ≡ Other
before_setting = refl

before_two : said (codes "before a b") ≡ Other
before_two = refl

no_line : said [] ≡ Other
no_line = refl

-- ---- lists

abbrev load_alone : Effects
load_alone = (codes "load", quiet) ∷ []

-- the lines of the start are no lines of commands
lines_apart : without_start (codes "given a=b\nload\nbefore c\n") ≡ codes "\nload\n\n"
lines_apart = refl

list_of_all : board_of (text_alone (codes "given a=b\nload\nbefore c")) ≡ Ok (record {
  start = record { givens = (codes "a", record { first = codes "b"; others = [] }) ∷ []; before = codes "c" ∷ []; counter = None };
  devices = only load_alone;
})
list_of_all = refl

list_without : board_of (text_alone (codes "load")) ≡ Ok (record { start = no_start; devices = only load_alone })
list_without = refl

-- a faulty line of the start is a bad line, and the first bad line is reported
faulty_is_bad : board_of (text_alone (codes "load\ngiven a=b c\nload x")) ≡ Err (OfDevices (BadLine 2))
faulty_is_bad = refl

faulty_later : board_of (text_alone (codes "load\nload x\ngiven a=b c")) ≡ Err (OfDevices (BadLine 2))
faulty_later = refl

-- the values of a name, each once, in order, and the names whose texts run first, in theirs
abbrev of_both : Start
of_both = record {
  givens = (codes "a", record { first = codes "1"; others = codes "2" ∷ codes "3" ∷ [] }) ∷ (codes "b", record { first = codes "x"; others = codes "y" ∷ [] }) ∷ [];
  before = codes "p" ∷ codes "q" ∷ codes "p" ∷ [];
  counter = None;
}

values_once : start_of (codes "given a=1\ngiven b=x\nbefore p\ngiven a=2\ngiven a=1\ngiven b=y\nbefore q\ngiven a=3\nbefore p") ≡ Ok of_both
values_once = refl

-- ---- alternatives

six : choices of_both.givens ≡ 6
six = refl

-- each value with each, the last name fastest
first_chosen : chosen of_both 0 ≡ (codes "a", codes "1") ∷ (codes "b", codes "x") ∷ []
first_chosen = refl

second_chosen : chosen of_both 1 ≡ (codes "a", codes "1") ∷ (codes "b", codes "y") ∷ []
second_chosen = refl

third_chosen : chosen of_both 2 ≡ (codes "a", codes "2") ∷ (codes "b", codes "x") ∷ []
third_chosen = refl

last_chosen : chosen of_both 5 ≡ (codes "a", codes "3") ∷ (codes "b", codes "y") ∷ []
last_chosen = refl

-- an alternative is reported by the variables that have several values
first_line : given_line of_both 0 ≡ codes "given a=1 b=x\n"
first_line = refl

abbrev of_one : Start
of_one = record { givens = (codes "a", record { first = codes "1"; others = [] }) ∷ (codes "b c", record { first = codes "x y"; others = [] ∷ [] }) ∷ []; before = []; counter = None }

line_of_one : given_line of_one 0 ≡ codes "given b\\x20c=x\\x20y\n"
line_of_one = refl

line_of_nothing : given_line of_one 1 ≡ codes "given b\\x20c=\n"
line_of_nothing = refl

-- a list with one alternative needs no name for it
place_alone : place_of 1 None ≡ Ok 0
place_alone = refl

place_unnamed : place_of 2 None ≡ Err (Alternatives 2)
place_unnamed = refl

place_first : place_of 2 (Some 1) ≡ Ok 0
place_first = refl

place_last : place_of 2 (Some 2) ≡ Ok 1
place_last = refl

place_none : place_of 2 (Some 0) ≡ Err (NoAlternative 0 2)
place_none = refl

place_beyond : place_of 2 (Some 3) ≡ Err (NoAlternative 3 2)
place_beyond = refl

-- 64 are as many as there may be: a further value is refused, and the same one is not
abbrev start_of_64 : Start
start_of_64 = record {
  givens = (codes "a", record { first = codes "1"; others = codes "2" ∷ codes "3" ∷ codes "4" ∷ codes "5" ∷ codes "6" ∷ codes "7" ∷ codes "8" ∷ [] }) ∷ (codes "b", record { first = codes "1"; others = codes "2" ∷ codes "3" ∷ codes "4" ∷ codes "5" ∷ codes "6" ∷ codes "7" ∷ codes "8" ∷ [] }) ∷ [];
  before = [];
  counter = None;
}

one_too_many : after_said start_of_64 9 (Given (codes "b") (codes "9")) ≡ Err (TooMany 9)
one_too_many = refl

none_too_many : after_said start_of_64 9 (Given (codes "b") (codes "8")) ≡ Ok start_of_64
none_too_many = refl

-- ---- the environment

abbrev stored : List Pair
stored = (codes "a", codes "0") ∷ (codes "p", codes "true") ∷ (codes "bootcmd", codes "load") ∷ []

-- what is given takes the place of what is stored, and an empty value deletes
value_in_place : with_changes stored ((codes "a", codes "1") ∷ (codes "p", []) ∷ (codes "c", codes "2") ∷ []) ≡ (codes "bootcmd", codes "load") ∷ (codes "a", codes "1") ∷ (codes "c", codes "2") ∷ []
value_in_place = refl

-- ---- the text

abbrev runs_first : Start
runs_first = record { givens = (codes "q", record { first = codes "x"; others = [] }) ∷ []; before = codes "p" ∷ codes "none" ∷ codes "q" ∷ []; counter = None }

abbrev given_q : List Pair
given_q = (codes "a", codes "0") ∷ (codes "p", codes "true") ∷ (codes "bootcmd", codes "load") ∷ (codes "q", codes "x") ∷ []

-- the texts that run first, of those that are set, and then the variable
variable_last : begun runs_first None stored (codes "bootcmd") None ≡ Ok (record { environment = given_q; saves = false; text = Some (codes "run p\nrun q\nrun bootcmd\n") })
variable_last = refl

-- or the text that is given
text_last : begun runs_first None stored (codes "boot.scr") (Some (codes "load; reset")) ≡ Ok (record { environment = given_q; saves = false; text = Some (codes "run p\nrun q\nload; reset") })
text_last = refl

-- a variable that is not set is none
variable_unset : begun runs_first None stored (codes "altbootcmd") None ≡ Ok (record { environment = given_q; saves = false; text = None })
variable_unset = refl

-- no text runs first, if none of the names is set
none_first : begun (record { givens = []; before = codes "none" ∷ []; counter = None }) None stored (codes "bootcmd") None ≡ Ok (record { environment = stored; saves = false; text = None })
none_first = refl

-- a name that `run` does not take as it is
abbrev odd : List Pair
odd = (codes "p", codes "true") ∷ (codes "a b", codes "load") ∷ []

odd_name : begun (record { givens = []; before = codes "p" ∷ []; counter = None }) None odd (codes "a b") None ≡ Err Name
odd_name = refl

odd_name_first : begun no_start None odd (codes "a b") None ≡ Ok (record { environment = odd; saves = false; text = None })
odd_name_first = refl
