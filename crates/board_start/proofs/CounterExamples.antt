-- Worked examples of the boot counter, computed.
use Rattle.std.proofs.Common.{◌≡◌, Bool, true, false, List, [], ◌∷◌, Some, None, Ok, Err, codes, refl}
use Rattle.std.specs.Fmt.{digits}
use Rattle.text.specs.Lines.{Text}
use Rattle.envimage.specs.Data.{Pair}
use Rattle.device_list.specs.declared.devices_error.DevicesError.TheVariants.{BadLine}
use Rattle.board_start.specs.Counter.{Counter, counter_of, number_of, number_in, is_upgrade, count_in, raised, is_passed}
use Rattle.board_start.specs.StartLines.{Counts, Faulty, Other, said, without_start}
use Rattle.board_start.specs.Start.{Start, start_of, begun}
use Rattle.board_start.specs.Boards.{board_of, text_alone, OfDevices}

-- ---- lines

abbrev uboot : Counter
uboot = counter_of (codes "bootcount") (codes "bootlimit") (codes "altbootcmd")

six_words : said (codes "count bootcount limit bootlimit else altbootcmd") ≡ Counts uboot
six_words = refl

-- blanks are between words, and around the line
six_among_blanks : said (codes " \tcount \t bootcount limit\tbootlimit else altbootcmd \r") ≡ Counts uboot
six_among_blanks = refl

-- with fewer words or more it is a line of the list of commands, and so it is with another word in place of one of the three
five_words : said (codes "count bootcount limit bootlimit else") ≡ Other
five_words = refl

seven_words : said (codes "count bootcount limit bootlimit else altbootcmd again") ≡ Other
seven_words = refl

count_alone : said (codes "count") ≡ Other
count_alone = refl

count_longer : said (codes "counts a limit b else c") ≡ Other
count_longer = refl

no_limit_word : said (codes "count a below b else c") ≡ Other
no_limit_word = refl

no_else_word : said (codes "count a limit b or c") ≡ Other
no_else_word = refl

count_comment : said (codes "# count a limit b else") ≡ Other
count_comment = refl

-- each name is one that `run` takes as it is
counter_quoted : said (codes "count 'a' limit b else c") ≡ Faulty
counter_quoted = refl

counter_minus : said (codes "count -a limit b else c") ≡ Faulty
counter_minus = refl

limit_minus : said (codes "count a limit -b else c") ≡ Faulty
limit_minus = refl

limit_setting : said (codes "count a limit b=3 else c") ≡ Faulty
limit_setting = refl

alternative_dollar : said (codes "count a limit b else $c") ≡ Faulty
alternative_dollar = refl

-- ---- lists

line_apart : without_start (codes "load\ncount a limit b else c\nsave") ≡ codes "load\n\nsave"
line_apart = refl

-- other lines have the same bytes
line_left_alone : without_start (codes "count  a limit b\ncount") ≡ codes "count  a limit b\ncount"
line_left_alone = refl

faulty_is_bad : board_of (text_alone (codes "load\ncount -a limit b else c")) ≡ Err (OfDevices (BadLine 2))
faulty_is_bad = refl

-- the last line counts
abbrev of_two : Start
of_two = record { givens = []; before = codes "p" ∷ []; counter = Some (counter_of (codes "d") (codes "e") (codes "f")) }

last_counter : start_of (codes "count a limit b else c\nbefore p\ncount d limit e else f\ncount g\n") ≡ Ok of_two
last_counter = refl

-- ---- numbers

decimal_number : number_of (codes "12") ≡ 12
decimal_number = refl

hexadecimal_number : number_of (codes "0x10") ≡ 16
hexadecimal_number = refl

hexadecimal_capital : number_of (codes "0X1F") ≡ 31
hexadecimal_capital = refl

-- a 0 in front does not make it octal
no_octal_number : number_of (codes "010") ≡ 10
no_octal_number = refl

-- up to the first other byte
digits_in_front : number_of (codes "12abc") ≡ 12
digits_in_front = refl

no_blank_in_front : number_of (codes " 1") ≡ 0
no_blank_in_front = refl

no_sign_in_front : number_of (codes "-1") ≡ 0
no_sign_in_front = refl

no_digit : number_of (codes "yes") ≡ 0
no_digit = refl

no_hexadecimal_digit : number_of (codes "0xyes") ≡ 0
no_hexadecimal_digit = refl

no_bytes : number_of [] ≡ 0
no_bytes = refl

not_set : number_in [] (codes "bootcount") ≡ 0
not_set = refl

greatest_number : number_of (codes "18446744073709551615") ≡ 18446744073709551615
greatest_number = refl

wrapped_number : number_of (codes "18446744073709551621") ≡ 5
wrapped_number = refl

-- ---- whether an update is tried

abbrev with_upgrade : (upgrade : Text) → List Pair
with_upgrade upgrade = (codes "upgrade_available", upgrade) ∷ []

upgrade_one : is_upgrade (with_upgrade (codes "1")) ≡ true
upgrade_one = refl

upgrade_zero : is_upgrade (with_upgrade (codes "0")) ≡ false
upgrade_zero = refl

upgrade_word : is_upgrade (with_upgrade (codes "yes")) ≡ false
upgrade_word = refl

upgrade_not_set : is_upgrade [] ≡ false
upgrade_not_set = refl

-- the number is cut to 32 bits
upgrade_cut : is_upgrade (with_upgrade (codes "4294967296")) ≡ false
upgrade_cut = refl

upgrade_cut_to_one : is_upgrade (with_upgrade (codes "4294967297")) ≡ true
upgrade_cut_to_one = refl

-- ---- the counter

abbrev stored : (upgrade limit count : Text) → List Pair
stored upgrade limit count =
    (codes "upgrade_available", upgrade) ∷ (codes "bootlimit", limit) ∷ (codes "altbootcmd", codes "run recovery") ∷ (codes "p", codes "true") ∷ (codes "bootcount", count) ∷ []

counted : count_in uboot (stored (codes "1") (codes "3") (codes "2")) ≡ 2
counted = refl

-- without an update nothing is counted on
counted_without : count_in uboot (stored (codes "0") (codes "3") (codes "2")) ≡ 0
counted_without = refl

raised_by_one : raised uboot (stored (codes "1") (codes "3") (codes "2")) ≡ stored (codes "1") (codes "3") (codes "3")
unfolding digits
raised_by_one = refl

-- the counter is written in decimal digits
raised_hexadecimal : raised uboot (stored (codes "1") (codes "3") (codes "0x0f")) ≡ stored (codes "1") (codes "3") (codes "16")
unfolding digits
raised_hexadecimal = refl

raised_greatest : raised uboot (stored (codes "1") (codes "3") (codes "18446744073709551615")) ≡ stored (codes "1") (codes "3") (codes "0")
unfolding digits
raised_greatest = refl

raised_to_one : raised uboot (stored (codes "0") (codes "3") (codes "7")) ≡ stored (codes "0") (codes "3") (codes "1")
unfolding digits
raised_to_one = refl

raised_not_set : raised uboot (with_upgrade (codes "1")) ≡ (codes "upgrade_available", codes "1") ∷ (codes "bootcount", codes "1") ∷ []
unfolding digits
raised_not_set = refl

-- ---- the limit

count_at_limit : is_passed uboot (stored (codes "1") (codes "3") (codes "3")) ≡ false
count_at_limit = refl

count_beyond : is_passed uboot (stored (codes "1") (codes "3") (codes "4")) ≡ true
count_beyond = refl

limit_of_zero : is_passed uboot (stored (codes "1") (codes "0") (codes "4")) ≡ false
limit_of_zero = refl

-- the limit is not cut
limit_above_32_bits : is_passed uboot (stored (codes "1") (codes "4294967296") (codes "4294967297")) ≡ true
limit_above_32_bits = refl

no_update_tried : is_passed uboot (stored (codes "0") (codes "3") (codes "4")) ≡ false
no_update_tried = refl

-- ---- the start of a rehearsal

abbrev starts : Start
starts = record { givens = []; before = []; counter = Some uboot }

-- the third of three tries
third_try : begun starts None (stored (codes "1") (codes "3") (codes "2")) (codes "bootcmd") None
    ≡ Ok (record { environment = stored (codes "1") (codes "3") (codes "3"); saves = true; text = None })
unfolding digits
third_try = refl

-- and the boot after that
after_three_tries : begun starts None (stored (codes "1") (codes "3") (codes "3")) (codes "bootcmd") None
    ≡ Ok (record { environment = stored (codes "1") (codes "3") (codes "4"); saves = true; text = Some (codes "run recovery") })
unfolding digits
after_three_tries = refl

-- also in place of a text that is given
in_place_of_a_text : begun starts None (stored (codes "1") (codes "3") (codes "3")) (codes "boot.scr") (Some (codes "load"))
    ≡ Ok (record { environment = stored (codes "1") (codes "3") (codes "4"); saves = true; text = Some (codes "run recovery") })
unfolding digits
in_place_of_a_text = refl

-- without an update the counter is 1, and the environment is not saved
without_an_update : begun starts None (stored (codes "0") (codes "3") (codes "9")) (codes "boot.scr") (Some (codes "load"))
    ≡ Ok (record { environment = stored (codes "0") (codes "3") (codes "1"); saves = false; text = Some (codes "load") })
unfolding digits
without_an_update = refl

-- an alternative that is not set runs nothing
abbrev without_alternative : (count : Text) → List Pair
without_alternative count = (codes "upgrade_available", codes "1") ∷ (codes "bootlimit", codes "1") ∷ (codes "bootcmd", codes "load") ∷ (codes "bootcount", count) ∷ []

alternative_not_set : begun starts None (without_alternative (codes "1")) (codes "bootcmd") None
    ≡ Ok (record { environment = without_alternative (codes "2"); saves = true; text = Some [] })
unfolding digits
alternative_not_set = refl

-- the texts that run first are run in any case, in the environment with the raised counter
abbrev starts_after : Start
starts_after = record { givens = []; before = codes "p" ∷ []; counter = Some uboot }

alternative_after_first : begun starts_after None (stored (codes "1") (codes "3") (codes "3")) (codes "bootcmd") None
    ≡ Ok (record { environment = stored (codes "1") (codes "3") (codes "4"); saves = true; text = Some (codes "run p\nrun recovery") })
unfolding digits
alternative_after_first = refl

-- the variables that are given are there before the counter is raised
abbrev starts_given : Start
starts_given = record { givens = (codes "bootcount", record { first = codes "8"; others = [] }) ∷ []; before = []; counter = Some uboot }

given_is_raised : begun starts_given None (stored (codes "1") (codes "3") (codes "2")) (codes "bootcmd") None
    ≡ Ok (record { environment = stored (codes "1") (codes "3") (codes "9"); saves = true; text = Some (codes "run recovery") })
unfolding digits
given_is_raised = refl

-- the greatest counter is raised to 0, which is not beyond the limit
beyond_the_greatest : begun starts None (stored (codes "1") (codes "3") (codes "18446744073709551615")) (codes "bootcmd") None
    ≡ Ok (record { environment = stored (codes "1") (codes "3") (codes "0"); saves = true; text = None })
unfolding digits
beyond_the_greatest = refl
