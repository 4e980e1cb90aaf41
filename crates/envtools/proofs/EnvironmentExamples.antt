-- Worked examples of environments, scripts, printing and writing back, computed.
use Rattle.std.specs.Prelude.{◌≡◌, true, false, List, [], ◌∷◌, ◌++◌, None, Some, codes, refl}
use Rattle.envimage.specs.Data.{Pair}
use Rattle.envimage.specs.declared.image.ByteOrder.TheVariants.{Little, Big}
use Rattle.envimage.specs.declared.image.Which.TheVariants.{First, Second}
use Rattle.envtools.specs.Changes.{with_changes}
use Rattle.envtools.specs.Environment.{env_of, put, changed}
use Rattle.envtools.specs.Printing.{plain, printed_output, printed_errors, texts_ended_by}
use Rattle.envtools.specs.Saving.{copy_to_write, half_written, saved_image, spare_of}
use Rattle.envtools.specs.Scripting.{scripted}
use Rattle.envtools.specs.declared.print_form.PrintForm.{PrintForm}
use Rattle.envtools.specs.declared.script.ScriptError.TheVariants.{BadName, BadValue}

-- ---- scripts

-- a script of four lines, and a fifth that is faulty
four_lines : scripted ((codes "a", codes "0") ∷ []) (codes "# c\na\nb  x  y\nc=1") ≡ record { env = ((codes "b", codes "x  y") ∷ (codes "c", codes "1") ∷ []); fault = None }
four_lines = refl

faulty_fifth : scripted ((codes "a", codes "0") ∷ []) (codes "# c\na\nb  x  y\nc=1\n=x") ≡ record { env = ((codes "b", codes "x  y") ∷ (codes "c", codes "1") ∷ []); fault = Some (BadName 5) }
faulty_fifth = refl

equals_in_the_value : scripted [] (codes "a = 1") ≡ record { env = ((codes "a", codes "= 1") ∷ []); fault = None }
equals_in_the_value = refl

blanks_round_a_value : scripted [] (codes "  k  v ") ≡ record { env = ((codes "k", codes "v ") ∷ []); fault = None }
blanks_round_a_value = refl

blanks_alone_delete : scripted ((codes "a", codes "0") ∷ []) (codes "a  ") ≡ record { env = []; fault = None }
blanks_alone_delete = refl

a_name_that_begins_with_a_hash : scripted ((codes "#x", codes "1") ∷ (codes "b", codes "2") ∷ []) (codes " #x") ≡ record { env = ((codes "b", codes "2") ∷ []); fault = None }
a_name_that_begins_with_a_hash = refl

carriage_returns : scripted ((codes "a", codes "0") ∷ []) (codes "\r\nb 1\r\r\n") ≡ record { env = ((codes "a", codes "0") ∷ (codes "b", codes "1") ∷ []); fault = None }
carriage_returns = refl

nul_in_a_value : scripted ((codes "a", codes "0") ∷ []) (codes "a " ++ 0 ∷ []) ≡ record { env = ((codes "a", codes "0") ∷ []); fault = Some (BadValue 1) }
nul_in_a_value = refl

a_later_line_acts_on_the_earlier : scripted ((codes "a", codes "0") ∷ []) (codes "b 1\na\nb 2\na 3") ≡ record { env = ((codes "b", codes "2") ∷ (codes "a", codes "3") ∷ []); fault = None }
a_later_line_acts_on_the_earlier = refl

-- ---- environments

last_value_in_the_first_place : env_of ((codes "a", codes "1") ∷ (codes "b", codes "2") ∷ (codes "a", codes "3") ∷ []) ≡ ((codes "a", codes "3") ∷ (codes "b", codes "2") ∷ [])
last_value_in_the_first_place = refl

set_goes_last : put ((codes "a", codes "1") ∷ (codes "b", codes "2") ∷ []) (codes "a") (codes "1") ≡ ((codes "b", codes "2") ∷ (codes "a", codes "1") ∷ [])
set_goes_last = refl

same_value_keeps_its_place : changed ((codes "a", codes "1 2") ∷ (codes "b", codes "2") ∷ []) (codes "a") (codes "1" ∷ codes "2" ∷ []) ≡ ((codes "a", codes "1 2") ∷ (codes "b", codes "2") ∷ [])
same_value_keeps_its_place = refl

no_word_deletes : changed ((codes "a", codes "1") ∷ (codes "b", codes "2") ∷ []) (codes "a") [] ≡ ((codes "b", codes "2") ∷ [])
no_word_deletes = refl

an_empty_word_deletes : changed ((codes "a", codes "1") ∷ (codes "b", codes "2") ∷ []) (codes "a") ([] ∷ []) ≡ ((codes "b", codes "2") ∷ [])
an_empty_word_deletes = refl

words_are_joined : changed [] (codes "a") (codes "x" ∷ [] ∷ codes "y" ∷ []) ≡ ((codes "a", codes "x  y") ∷ [])
words_are_joined = refl

-- ---- changes one after another

-- each acts on what the earlier ones left: another value goes last, the same one keeps its place, and an empty one deletes
changes_in_order : with_changes ((codes "a", codes "1") ∷ (codes "b", codes "2") ∷ (codes "c", codes "3") ∷ []) ((codes "a", codes "0") ∷ (codes "b", []) ∷ (codes "c", codes "3") ∷ (codes "d", codes "4") ∷ (codes "a", codes "5") ∷ []) ≡ ((codes "c", codes "3") ∷ (codes "d", codes "4") ∷ (codes "a", codes "5") ∷ [])
changes_in_order = refl

-- those that no variable may have are left out
changes_left_out : with_changes ((codes "a", codes "1") ∷ []) (([], codes "1") ∷ (codes "b=c", codes "1") ∷ (codes "a", 0 ∷ []) ∷ (codes "b", codes "2") ∷ []) ≡ ((codes "a", codes "1") ∷ (codes "b", codes "2") ∷ [])
changes_left_out = refl

-- ---- printing

abbrev escaped : PrintForm
escaped = record { header = true; escaped = true; null = false }

abbrev null : PrintForm
null = record { header = true; escaped = false; null = true }

abbrev escaped_null : PrintForm
escaped_null = record { header = true; escaped = true; null = true }

-- the value alone
abbrev alone : PrintForm → PrintForm
alone form = record { header = false; escaped = form.escaped; null = form.null }

a_missing_name : printed_output ((codes "a", codes "1") ∷ []) (codes "b" ∷ codes "a" ∷ []) plain ≡ codes "a=1\n"
a_missing_name = refl

a_missing_name_is_told : printed_errors ((codes "a", codes "1") ∷ []) (codes "b" ∷ codes "a" ∷ []) ≡ codes "## Error: \"b\" not defined\n"
a_missing_name_is_told = refl

a_value_alone : printed_output ((codes "a", codes "1") ∷ []) (codes "a" ∷ []) (alone plain) ≡ codes "1\n"
a_value_alone = refl

-- ---- the forms

-- a value that has a line as printing writes it
abbrev forged : List Pair
forged = (codes "a", codes "1\nb=2") ∷ (codes "c", codes "3") ∷ []

newline_plain : printed_output forged [] plain ≡ codes "a=1\nb=2\nc=3\n"
newline_plain = refl

newline_escaped : printed_output forged [] escaped ≡ codes "a=1\\nb=2\nc=3\n"
newline_escaped = refl

newline_null : printed_output forged [] null ≡ codes "a=1\nb=2" ++ 0 ∷ codes "c=3" ++ 0 ∷ []
newline_null = refl

newline_escaped_null : printed_output forged [] escaped_null ≡ codes "a=1\\nb=2" ++ 0 ∷ codes "c=3" ++ 0 ∷ []
newline_escaped_null = refl

newline_alone : printed_output forged (codes "a" ∷ []) (alone plain) ≡ codes "1\nb=2\n"
newline_alone = refl

newline_alone_escaped : printed_output forged (codes "a" ∷ []) (alone escaped) ≡ codes "1\\nb=2\n"
newline_alone_escaped = refl

newline_alone_null : printed_output forged (codes "a" ∷ []) (alone null) ≡ codes "1\nb=2" ++ 0 ∷ []
newline_alone_null = refl

newline_alone_escaped_null : printed_output forged (codes "a" ∷ []) (alone escaped_null) ≡ codes "1\\nb=2" ++ 0 ∷ []
newline_alone_escaped_null = refl

-- a backslash differs from the escapes
backslash_escaped : printed_output ((codes "a", codes "1\\nb=2") ∷ []) [] escaped ≡ codes "a=1\\\\nb=2\n"
backslash_escaped = refl

backslash_null : printed_output ((codes "a", codes "1\\nb=2") ∷ []) [] null ≡ codes "a=1\\nb=2" ++ 0 ∷ []
backslash_null = refl

-- bytes over 127, and one that moves a cursor
high_bytes_escaped : printed_output ((codes "a", 195 ∷ 169 ∷ 255 ∷ 27 ∷ []) ∷ []) [] escaped ≡ codes "a=\\xc3\\xa9\\xff\\x1b\n"
high_bytes_escaped = refl

high_bytes_null : printed_output ((codes "a", 195 ∷ 169 ∷ 255 ∷ 27 ∷ []) ∷ []) [] null ≡ codes "a=" ++ 195 ∷ 169 ∷ 255 ∷ 27 ∷ 0 ∷ []
high_bytes_null = refl

high_bytes_alone_escaped : printed_output ((codes "a", 195 ∷ 169 ∷ []) ∷ []) (codes "a" ∷ []) (alone escaped) ≡ codes "\\xc3\\xa9\n"
high_bytes_alone_escaped = refl

empty_value_escaped : printed_output ((codes "a", []) ∷ []) [] escaped ≡ codes "a=\n"
empty_value_escaped = refl

empty_value_null : printed_output ((codes "a", []) ∷ []) [] null ≡ codes "a=" ++ 0 ∷ []
empty_value_null = refl

empty_value_alone_escaped : printed_output ((codes "a", []) ∷ []) (codes "a" ∷ []) (alone escaped) ≡ codes "\n"
empty_value_alone_escaped = refl

empty_value_alone_null : printed_output ((codes "a", []) ∷ []) (codes "a" ∷ []) (alone null) ≡ (0 ∷ [])
empty_value_alone_null = refl

nothing_escaped : printed_output [] [] escaped ≡ []
nothing_escaped = refl

nothing_null : printed_output [] [] null ≡ []
nothing_null = refl

nothing_escaped_null : printed_output [] [] escaped_null ≡ []
nothing_escaped_null = refl

-- the space of a name is escaped, and that of a value is not
spaces_escaped : printed_output ((codes "a b", codes "c d") ∷ []) [] escaped ≡ codes "a\\x20b=c d\n"
spaces_escaped = refl

spaces_null : printed_output ((codes "a b", codes "c d") ∷ []) [] null ≡ codes "a b=c d" ++ 0 ∷ []
spaces_null = refl

spaces_alone_escaped : printed_output ((codes "a b", codes "c d") ∷ []) (codes "a b" ∷ []) (alone escaped) ≡ codes "c d\n"
spaces_alone_escaped = refl

-- a newline in a name, which is asked for as it is stored
name_of_two_lines : printed_output ((codes "a\nb", codes "1") ∷ []) (codes "a\nb" ∷ []) escaped ≡ codes "a\\nb=1\n"
name_of_two_lines = refl

-- a missing name has no entry in any form
missing_escaped : printed_output forged (codes "b" ∷ codes "c" ∷ []) escaped ≡ codes "c=3\n"
missing_escaped = refl

missing_null : printed_output forged (codes "b" ∷ codes "c" ∷ []) null ≡ codes "c=3" ++ 0 ∷ []
missing_null = refl

-- cut at the ends: the plain form has an entry that no variable is
cut_plain : texts_ended_by 10 (printed_output forged [] plain) ≡ (codes "a=1" ∷ codes "b=2" ∷ codes "c=3" ∷ [])
cut_plain = refl

cut_escaped : texts_ended_by 10 (printed_output forged [] escaped) ≡ (codes "a=1\\nb=2" ∷ codes "c=3" ∷ [])
cut_escaped = refl

cut_null : texts_ended_by 0 (printed_output forged [] null) ≡ (codes "a=1\nb=2" ∷ codes "c=3" ∷ [])
cut_null = refl

-- ---- writing back

single_changed : saved_image ((codes "a", codes "2") ∷ []) (record { which = First; flag = None; order = Little; body = 0x61 ∷ 0x3d ∷ 0x31 ∷ 0 ∷ 0 ∷ [] }) ≡ (0x62 ∷ 0xb8 ∷ 0xde ∷ 0x47 ∷ 0x61 ∷ 0x3d ∷ 0x32 ∷ 0x00 ∷ 0x00 ∷ [])
single_changed = refl

single_unchanged : saved_image ((codes "a", codes "1") ∷ []) (record { which = First; flag = None; order = Little; body = 0x61 ∷ 0x3d ∷ 0x31 ∷ 0 ∷ 0 ∷ [] }) ≡ (0x3b ∷ 0x06 ∷ 0x98 ∷ 0x45 ∷ 0x61 ∷ 0x3d ∷ 0x31 ∷ 0x00 ∷ 0x00 ∷ [])
single_unchanged = refl

single_emptied : saved_image [] (record { which = First; flag = None; order = Little; body = 0x61 ∷ 0x3d ∷ 0x31 ∷ 0 ∷ 0 ∷ [] }) ≡ (0x1d ∷ 0xf7 ∷ 0x22 ∷ 0xc6 ∷ 0x00 ∷ 0x00 ∷ 0x00 ∷ 0x00 ∷ 0x00 ∷ [])
single_emptied = refl

pair_little_copy : copy_to_write (record { which = Second; flag = (Some 0); order = Little; body = 0x61 ∷ 0x3d ∷ 0x32 ∷ 0 ∷ 0 ∷ [] }) ≡ First
pair_little_copy = refl

pair_little : saved_image ((codes "a", codes "3") ∷ []) (record { which = Second; flag = (Some 0); order = Little; body = 0x61 ∷ 0x3d ∷ 0x32 ∷ 0 ∷ 0 ∷ [] }) ≡ (0x55 ∷ 0xd2 ∷ 0x1c ∷ 0x46 ∷ 0x01 ∷ 0x61 ∷ 0x3d ∷ 0x33 ∷ 0x00 ∷ 0x00 ∷ [])
pair_little = refl

pair_big_copy : copy_to_write (record { which = Second; flag = (Some 0); order = Big; body = 0x61 ∷ 0x3d ∷ 0x32 ∷ 0 ∷ 0 ∷ [] }) ≡ First
pair_big_copy = refl

pair_big : saved_image ((codes "a", codes "3") ∷ []) (record { which = Second; flag = (Some 0); order = Big; body = 0x61 ∷ 0x3d ∷ 0x32 ∷ 0 ∷ 0 ∷ [] }) ≡ (0x46 ∷ 0x1c ∷ 0xd2 ∷ 0x55 ∷ 0x01 ∷ 0x61 ∷ 0x3d ∷ 0x33 ∷ 0x00 ∷ 0x00 ∷ [])
pair_big = refl

flag_wraps_copy : copy_to_write (record { which = Second; flag = (Some 255); order = Little; body = 0x61 ∷ 0x3d ∷ 0x32 ∷ 0 ∷ 0 ∷ [] }) ≡ First
flag_wraps_copy = refl

flag_wraps : saved_image ((codes "a", codes "3") ∷ []) (record { which = Second; flag = (Some 255); order = Little; body = 0x61 ∷ 0x3d ∷ 0x32 ∷ 0 ∷ 0 ∷ [] }) ≡ (0x55 ∷ 0xd2 ∷ 0x1c ∷ 0x46 ∷ 0x00 ∷ 0x61 ∷ 0x3d ∷ 0x33 ∷ 0x00 ∷ 0x00 ∷ [])
flag_wraps = refl

-- ---- a write that breaks off

nothing_written : half_written (codes "old") 0 (codes "new") ≡ codes "old"
nothing_written = refl

two_bytes_written : half_written (codes "old") 2 (codes "new") ≡ codes "ned"
two_bytes_written = refl

all_written : half_written (codes "old") 3 (codes "new") ≡ codes "new"
all_written = refl

spare_of_the_first : spare_of First (codes "a") (codes "b") ≡ codes "b"
spare_of_the_first = refl

spare_of_the_second : spare_of Second (codes "a") (codes "b") ≡ codes "a"
spare_of_the_second = refl
