-- Worked examples of device lists, computed.
use Rattle.std.proofs.Common.{◌≡◌, true, false, [], ◌∷◌, ◌++◌, Some, None, Ok, Err, map, refl}
use Rattle.std.specs.Prelude.{codes}
use Rattle.text.specs.Lines.{Text}
use Rattle.device_list.specs.declared.finish.BoardEnd.TheVariants.{Boots, Restarts, Halts}
use Rattle.device_list.specs.Called.{Value, sets_in}
use Rattle.device_list.specs.DeviceList.{Variable, WordAt, LastWord, Literal, Effect, Devices, only, effect_of, listed}
use Rattle.device_list.specs.PlainList.{plain_names}
use Rattle.device_list.specs.declared.devices_error.DevicesError.TheVariants.{BadLine, BuiltIn, ByteOrderMark}

abbrev quiet : Effect
quiet = record { ends = None; stays = false; always = None; needs = []; normal = false; runs = []; sets = [] }

abbrev steady : Effect
steady = record { ends = None; stays = true; always = None; needs = []; normal = false; runs = []; sets = [] }

abbrev final : Effect
final = record { ends = Some Boots; stays = false; always = None; needs = []; normal = false; runs = []; sets = [] }

-- ---- names, comments and empty lines

two_names : listed (codes "# d\nload\n\nmmc") ≡ Ok (only ((codes "load", quiet) ∷ (codes "mmc", quiet) ∷ []))
two_names = refl

built_in_command : listed (codes "# d\nload\n\nmmc\necho") ≡ Err (BuiltIn 5)
built_in_command = refl

a_second_word : listed (codes "# d\nload\n\nmmc\na b") ≡ Err (BadLine 5)
a_second_word = refl

no_line : listed [] ≡ Ok (only [])
no_line = refl

name_twice : listed (codes "load\nload") ≡ Ok (only ((codes "load", quiet) ∷ []))
name_twice = refl

-- spaces, tabs and carriage returns around a line are dropped, and a comment may follow them
blanks_round : listed (32 ∷ 9 ∷ 13 ∷ codes "load \r\n \t\r\n  # echo\n") ≡ Ok (only ((codes "load", quiet) ∷ []))
blanks_round = refl

-- a carriage return inside a line is a byte of its word
return_inside : listed (97 ∷ 13 ∷ 98 ∷ []) ≡ Ok (only ((97 ∷ 13 ∷ 98 ∷ [], quiet) ∷ []))
return_inside = refl

-- a `#` after the first word starts no comment
comment_behind : listed (codes "load #x") ≡ Err (BadLine 1)
comment_behind = refl

-- a byte order mark is refused before any line is read, at the start of the list alone
abbrev mark : Text
mark = 239 ∷ 187 ∷ 191 ∷ []

marked_list : listed (mark ++ codes "load\nmmc") ≡ Err ByteOrderMark
marked_list = refl

mark_alone : listed mark ≡ Err ByteOrderMark
mark_alone = refl

mark_before_fault : listed (mark ++ codes "# d\necho") ≡ Err ByteOrderMark
mark_before_fault = refl

part_of_mark : listed (239 ∷ 187 ∷ []) ≡ Ok (only ((239 ∷ 187 ∷ [], quiet) ∷ []))
part_of_mark = refl

other_mark : listed (239 ∷ 187 ∷ 190 ∷ []) ≡ Ok (only ((239 ∷ 187 ∷ 190 ∷ [], quiet) ∷ []))
other_mark = refl

mark_in_a_later_line : listed (10 ∷ mark) ≡ Ok (only ((mark, quiet) ∷ []))
mark_in_a_later_line = refl

nul_in_name : listed (97 ∷ 0 ∷ []) ≡ Err (BadLine 1)
nul_in_name = refl

nul_in_value : listed (codes "load a=" ++ 0 ∷ []) ≡ Err (BadLine 1)
nul_in_value = refl

nul_in_comment : listed (35 ∷ 0 ∷ []) ≡ Ok (only [])
nul_in_comment = refl

each_built_in : listed (codes "setenv") ≡ Err (BuiltIn 1)
each_built_in = refl

built_in_run : listed (codes "run") ≡ Err (BuiltIn 1)
built_in_run = refl

built_in_test : listed (codes "test") ≡ Err (BuiltIn 1)
built_in_test = refl

built_in_true : listed (codes "true") ≡ Err (BuiltIn 1)
built_in_true = refl

built_in_false : listed (codes "false") ≡ Err (BuiltIn 1)
built_in_false = refl

built_in_exit : listed (codes "exit") ≡ Err (BuiltIn 1)
built_in_exit = refl

-- ---- the plain form

-- names in their order, each once, between comments of any words and empty lines
plain_list : plain_names (codes "# d x\nload\r\n\n\tmmc \n#mmc a=b\nload") ≡ Ok (codes "load" ∷ codes "mmc" ∷ [])
plain_list = refl

plain_comment_alone : plain_names (codes " # final x a=b" ++ 0 ∷ []) ≡ Ok []
plain_comment_alone = refl

plain_return_inside : plain_names (97 ∷ 13 ∷ 98 ∷ []) ≡ Ok ((97 ∷ 13 ∷ 98 ∷ []) ∷ [])
plain_return_inside = refl

-- what the whole form reads as a setting or as a final command is a second word here
plain_second_word : plain_names (codes "load\nmmc a=1") ≡ Err (BadLine 2)
plain_second_word = refl

plain_final : plain_names (codes "final x") ≡ Err (BadLine 1)
plain_final = refl

plain_nul : plain_names (97 ∷ 0 ∷ []) ≡ Err (BadLine 1)
plain_nul = refl

plain_built_in : plain_names (codes "load\n\nrun") ≡ Err (BuiltIn 3)
plain_built_in = refl

-- ---- final commands

command_final : listed (codes "final") ≡ Ok (only ((codes "final", quiet) ∷ []))
command_final = refl

final_sets : listed (codes "final a=b") ≡ Ok (only ((codes "final", record { ends = None; stays = false; always = None; needs = []; normal = false; runs = []; sets = (Variable (codes "a"), Literal (codes "b")) ∷ [] }) ∷ []))
final_sets = refl

x_is_final : listed (codes "final x") ≡ Ok (only ((codes "x", final) ∷ []))
x_is_final = refl

final_is_final : listed (codes "final final") ≡ Ok (only ((codes "final", final) ∷ []))
final_is_final = refl

x_is_final_and_sets : listed (codes "final x a=1") ≡ Ok (only ((codes "x", record { ends = Some Boots; stays = false; always = None; needs = []; normal = false; runs = []; sets = (Variable (codes "a"), Literal (codes "1")) ∷ [] }) ∷ []))
x_is_final_and_sets = refl

-- ---- commands that restart the board, or halt it

x_restarts_and_y_halts : listed (codes "restart x\nhalt y") ≡ Ok (only ((codes "x", record quiet { ends = Some Restarts }) ∷ (codes "y", record quiet { ends = Some Halts }) ∷ []))
x_restarts_and_y_halts = refl

-- as names of commands
commands_restart_and_halt : listed (codes "restart\nhalt a=b") ≡ Ok (only ((codes "restart", quiet) ∷ (codes "halt", record quiet { sets = (Variable (codes "a"), Literal (codes "b")) ∷ [] }) ∷ []))
commands_restart_and_halt = refl

-- in front of `steady` and `sub`, and one of them alone
restart_steady_sub : listed (codes "restart steady sub mmc boot") ≡ Ok (record (only []) { subs = (codes "mmc", (codes "boot", record steady { ends = Some Restarts }) ∷ []) ∷ [] })
restart_steady_sub = refl

both_words : map (λ line. listed line) (codes "restart halt x" ∷ codes "final restart x" ∷ codes "steady halt x" ∷ codes "restart echo" ∷ []) ≡ Err (BadLine 1) ∷ Err (BadLine 1) ∷ Err (BadLine 1) ∷ Err (BuiltIn 1) ∷ []
both_words = refl

-- of lines of one name the first that says how decides
first_says_how : map (λ text. listed text) (codes "restart x\nfinal x" ∷ codes "x\nhalt x\nrestart x" ∷ []) ≡ Ok (only ((codes "x", record quiet { ends = Some Restarts }) ∷ [])) ∷ Ok (only ((codes "x", record quiet { ends = Some Halts }) ∷ [])) ∷ []
first_says_how = refl

final_echo : listed (codes "final echo") ≡ Err (BuiltIn 1)
final_echo = refl

-- after `final`, a word with `=` is a setting, not a name, and a setting needs a name
final_without_name : listed (codes "final =x") ≡ Err (BadLine 1)
final_without_name = refl

-- ---- steady commands

command_steady : listed (codes "steady") ≡ Ok (only ((codes "steady", quiet) ∷ []))
command_steady = refl

steady_sets : listed (codes "steady a=b") ≡ Ok (only ((codes "steady", record quiet { sets = (Variable (codes "a"), Literal (codes "b")) ∷ [] }) ∷ []))
steady_sets = refl

x_is_steady : listed (codes "steady x") ≡ Ok (only ((codes "x", steady) ∷ []))
x_is_steady = refl

steady_is_steady : listed (codes "steady steady") ≡ Ok (only ((codes "steady", steady) ∷ []))
steady_is_steady = refl

x_is_steady_and_sets : listed (codes "steady x a=1") ≡ Ok (only ((codes "x", record steady { sets = (Variable (codes "a"), Literal (codes "1")) ∷ [] }) ∷ []))
x_is_steady_and_sets = refl

-- `final` is before `steady`
x_is_both : listed (codes "final steady x") ≡ Ok (only ((codes "x", record steady { ends = Some Boots }) ∷ []))
x_is_both = refl

other_order : listed (codes "steady final x") ≡ Err (BadLine 1)
other_order = refl

final_command_steady : listed (codes "final steady a=1") ≡ Ok (only ((codes "steady", record final { sets = (Variable (codes "a"), Literal (codes "1")) ∷ [] }) ∷ []))
final_command_steady = refl

steady_echo : listed (codes "steady echo") ≡ Err (BuiltIn 1)
steady_echo = refl

steady_without_name : listed (codes "steady =x") ≡ Err (BadLine 1)
steady_without_name = refl

-- of lines that are joined, one that is steady is enough
steady_joined : listed (codes "load a=1\nsteady load\nload a=2") ≡ Ok (only ((codes "load", record steady { sets = (Variable (codes "a"), Literal (codes "1")) ∷ (Variable (codes "a"), Literal (codes "2")) ∷ [] }) ∷ []))
steady_joined = refl

-- `test -e`
test_is_steady : listed (codes "steady test") ≡ Ok (record (only []) { test_stays = true })
test_is_steady = refl

test_is_steady_twice : listed (codes "steady test\nsteady test\nx") ≡ Ok (record (only ((codes "x", quiet) ∷ [])) { test_stays = true })
test_is_steady_twice = refl

steady_test_sets : listed (codes "steady test a=1") ≡ Err (BuiltIn 1)
steady_test_sets = refl

steady_test_word : listed (codes "steady test -e") ≡ Err (BadLine 1)
steady_test_word = refl

final_steady_test : listed (codes "final steady test") ≡ Err (BuiltIn 1)
final_steady_test = refl

-- ---- settings

-- lines of one name are joined
joined_lines : listed (codes "load a=1\nfinal load\nload a=2") ≡ Ok (only ((codes "load", record { ends = Some Boots; stays = false; always = None; needs = []; normal = false; runs = []; sets = (Variable (codes "a"), Literal (codes "1")) ∷ (Variable (codes "a"), Literal (codes "2")) ∷ [] }) ∷ []))
joined_lines = refl

boot_list : listed (codes "load filesize=1000\nfinal bootm\n") ≡ Ok (only ((codes "load", record { ends = None; stays = false; always = None; needs = []; normal = false; runs = []; sets = (Variable (codes "filesize"), Literal (codes "1000")) ∷ [] }) ∷ (codes "bootm", final) ∷ []))
boot_list = refl

word_without_equals : listed (codes "load x") ≡ Err (BadLine 1)
word_without_equals = refl

setting_without_name : listed (codes "load =x") ≡ Err (BadLine 1)
setting_without_name = refl

setting_with_dash : listed (codes "load -x=1") ≡ Err (BadLine 1)
setting_with_dash = refl

-- a name may hold a `-`, but not start with one
name_with_dash : listed (codes "load fdt-file=1")
    ≡ Ok (only ((codes "load", record { ends = None; stays = false; always = None; needs = []; normal = false; runs = []; sets = (Variable (codes "fdt-file"), Literal (codes "1")) ∷ [] }) ∷ []))
name_with_dash = refl

empty_value : listed (codes "load a=") ≡ Ok (only ((codes "load", record { ends = None; stays = false; always = None; needs = []; normal = false; runs = []; sets = (Variable (codes "a"), Literal []) ∷ [] }) ∷ []))
empty_value = refl

first_equals : listed (codes "load\ta=b=c") ≡ Ok (only ((codes "load", record { ends = None; stays = false; always = None; needs = []; normal = false; runs = []; sets = (Variable (codes "a"), Literal (codes "b=c")) ∷ [] }) ∷ []))
first_equals = refl

name_with_equals : listed (codes "=x") ≡ Ok (only ((codes "=x", quiet) ∷ []))
name_with_equals = refl

built_in_that_sets : listed (codes "echo a=b") ≡ Err (BuiltIn 1)
built_in_that_sets = refl

-- a bad line is reported before a built-in name, and the first faulty line before a later one
bad_before_built_in : listed (codes "echo x") ≡ Err (BadLine 1)
bad_before_built_in = refl

first_fault : listed (codes "a\necho\na b") ≡ Err (BuiltIn 2)
first_fault = refl

-- ---- the calls of a command

abbrev sub_list : Text → Text → Effect → Devices
sub_list name word effect = record { commands = []; subs = (name, (word, effect) ∷ []) ∷ []; calls = []; known = []; test_stays = false; choices = []; files = [] }

sub_line : listed (codes "sub part list") ≡ Ok (sub_list (codes "part") (codes "list") quiet)
sub_line = refl

final_sub_line : listed (codes "final sub mmc boot a=1") ≡ Ok (sub_list (codes "mmc") (codes "boot") (record { ends = Some Boots; stays = false; always = None; needs = []; normal = false; runs = []; sets = (Variable (codes "a"), Literal (codes "1")) ∷ [] }))
final_sub_line = refl

-- the variable that a word of the call names
sets_by_words : listed (codes "sub part list @last=1 @4= a@1=2") ≡ Ok (sub_list (codes "part") (codes "list") (record { ends = None; stays = false; always = None; needs = []; normal = false; runs = []; sets = (LastWord, Literal (codes "1")) ∷ (WordAt 3, Literal []) ∷ (Variable (codes "a@1"), Literal (codes "2")) ∷ [] }))
sets_by_words = refl

-- `@` that names no word of the call
no_such_word : listed (codes "sub part list @0=1") ≡ Err (BadLine 1)
no_such_word = refl

zeros_alone : listed (codes "sub part list @00=1") ≡ Err (BadLine 1)
zeros_alone = refl

-- zeros in front of the number change nothing
zeros_in_front : listed (codes "sub part list @01=1 @0010=") ≡ Ok (sub_list (codes "part") (codes "list") (record quiet { sets = (WordAt 0, Literal (codes "1")) ∷ (WordAt 9, Literal []) ∷ [] }))
zeros_in_front = refl

no_number : listed (codes "sub part list @x=1") ≡ Err (BadLine 1)
no_number = refl

no_word : listed (codes "sub part list @=1") ≡ Err (BadLine 1)
no_word = refl

-- a command `sub`
command_sub : listed (codes "sub") ≡ Ok (only ((codes "sub", quiet) ∷ []))
command_sub = refl

command_sub_sets : listed (codes "sub a=1") ≡ Ok (only ((codes "sub", record { ends = None; stays = false; always = None; needs = []; normal = false; runs = []; sets = (Variable (codes "a"), Literal (codes "1")) ∷ [] }) ∷ []))
command_sub_sets = refl

command_sub_is_final : listed (codes "final sub") ≡ Ok (only ((codes "sub", final) ∷ []))
command_sub_is_final = refl

at_in_a_line_of_names : listed (codes "load @1=x") ≡ Ok (only ((codes "load", record { ends = None; stays = false; always = None; needs = []; normal = false; runs = []; sets = (Variable (codes "@1"), Literal (codes "x")) ∷ [] }) ∷ []))
at_in_a_line_of_names = refl

-- a second word that is no setting, in a line that is no `sub` line
sub_without_word : listed (codes "sub part") ≡ Err (BadLine 1)
sub_without_word = refl

sub_word_with_equals : listed (codes "sub part a=1") ≡ Err (BadLine 1)
sub_word_with_equals = refl

sub_built_in : listed (codes "sub echo x") ≡ Err (BuiltIn 1)
sub_built_in = refl

-- lines of one call are joined, apart from the lines of other calls and of the name
sub_lines_joined : listed (codes "sub part list a=1\npart\nfinal sub part list b=2\nsub part uuid")
    ≡ Ok (record {
      commands = (codes "part", quiet) ∷ [];
      subs = (codes "part", (codes "list", record { ends = Some Boots; stays = false; always = None; needs = []; normal = false; runs = []; sets = (Variable (codes "a"), Literal (codes "1")) ∷ (Variable (codes "b"), Literal (codes "2")) ∷ [] }) ∷ (codes "uuid", quiet) ∷ []) ∷ [];
      calls = [];
      known = [];
      test_stays = false;
      choices = [];
      files = [];
    })
sub_lines_joined = refl

-- ---- commands that are computed

steady_sub_line : listed (codes "steady sub mmc boot a=1") ≡ Ok (sub_list (codes "mmc") (codes "boot") (record steady { sets = (Variable (codes "a"), Literal (codes "1")) ∷ [] }))
steady_sub_line = refl

final_steady_sub_line : listed (codes "final steady sub mmc boot") ≡ Ok (sub_list (codes "mmc") (codes "boot") (record steady { ends = Some Boots }))
final_steady_sub_line = refl

-- a name is kept once, however many lines have it computed
known_once : listed (codes "known env\nknown itest\nknown env") ≡ Ok (record (only []) { known = codes "env" ∷ codes "itest" ∷ [] })
known_once = refl

known_line : listed (codes "known env\nknown itest\nknown setexpr") ≡ Ok (record (only []) { known = codes "env" ∷ codes "itest" ∷ codes "setexpr" ∷ [] })
known_line = refl

known_beside_its_lines : listed (codes "env\nknown env\nsub env default") ≡ Ok (record { commands = (codes "env", quiet) ∷ []; subs = (codes "env", (codes "default", quiet) ∷ []) ∷ []; calls = []; known = codes "env" ∷ []; test_stays = false; choices = []; files = [] })
known_beside_its_lines = refl

-- no other command is computed, and a `known` line has nothing after the name
known_other : listed (codes "known load") ≡ Err (BadLine 1)
known_other = refl

known_built_in : listed (codes "known setenv") ≡ Err (BadLine 1)
known_built_in = refl

known_more : listed (codes "known env a=1") ≡ Err (BadLine 1)
known_more = refl

known_final : listed (codes "final known env") ≡ Err (BadLine 1)
known_final = refl

-- a command `known`
command_known : listed (codes "known") ≡ Ok (only ((codes "known", quiet) ∷ []))
command_known = refl

command_known_sets : listed (codes "known env=1") ≡ Ok (only ((codes "known", record { ends = None; stays = false; always = None; needs = []; normal = false; runs = []; sets = (Variable (codes "env"), Literal (codes "1")) ∷ [] }) ∷ []))
command_known_sets = refl

-- ---- which lines decide for a call

abbrev parts : Devices
parts = record { commands = (codes "part", quiet) ∷ []; subs = (codes "part", (codes "list", final) ∷ []) ∷ (codes "mmc", (codes "dev", final) ∷ []) ∷ []; calls = []; known = []; test_stays = false; choices = []; files = [] }

by_its_sub_line : effect_of parts (codes "part") (codes "list" ∷ codes "mmc" ∷ []) ≡ Some final
by_its_sub_line = refl

by_the_line_of_its_name : effect_of parts (codes "part") (codes "uuid" ∷ codes "list" ∷ []) ≡ Some quiet
by_the_line_of_its_name = refl

name_alone_by_the_line_of_its_name : effect_of parts (codes "part") [] ≡ Some quiet
name_alone_by_the_line_of_its_name = refl

by_no_line : effect_of parts (codes "mmc") (codes "list" ∷ []) ≡ None
by_no_line = refl

-- ---- what a call sets

sets_the_last_word : sets_in (codes "list" ∷ codes "mmc" ∷ codes "v" ∷ []) ((LastWord, Literal (codes "1")) ∷ (WordAt 0, Literal (codes "2")) ∷ (Variable (codes "a"), Literal []) ∷ []) ≡ (codes "v", Value (codes "1")) ∷ (codes "list", Value (codes "2")) ∷ (codes "a", Value []) ∷ []
sets_the_last_word = refl

-- a word that the call does not have, or that is not the name of a variable
sets_nothing : sets_in (codes "-v" ∷ codes "a=b" ∷ [] ∷ []) ((LastWord, Literal (codes "1")) ∷ (WordAt 0, Literal (codes "2")) ∷ (WordAt 1, Literal (codes "3")) ∷ (WordAt 9, Literal (codes "4")) ∷ []) ≡ []
sets_nothing = refl
