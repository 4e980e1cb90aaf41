-- What is reported of calls, computed.
use Rattle.std.proofs.Common.{◌≡◌, true, false, [], ◌∷◌, Option, Some, None, Ok, Err, refl}
use Rattle.std.specs.Prelude.{Result, codes}
use Rattle.std.specs.Fmt.{digits}
use Rattle.hushlang.specs.Grammar.{reserved_of, assignment, name_in, name_of, is_in_word}
use Rattle.hushlang.specs.Tokenizing.{step, bare, dollar, braced, inside, front, word_front}
use Rattle.hushlang.specs.Words.{reserved}
use Rattle.hushlang.specs.WordPieces.{pieces}
use Rattle.hushlang.specs.Parsing.{whole, script, command, simple, keyword, next, behind, sees, expect, joined, joined_all, and_or, lists, lists_all, block, arm, arms, arms_all, if_command, body_of, loop_command, for_command, name, name_next, expect_in, in_next, all_words, separators, separator_next, closes_next, op_next, refusal, missing, at_last, word_next, assignment_next, assignments}
use Rattle.hushlang.specs.Tree.{Script}
use Rattle.hushlang.specs.declared.token.SyntaxError.{SyntaxError}
use Rattle.device_list.specs.DeviceList.{Devices, Effect}
use Rattle.hushcheck.specs.Calls.{calls_of, found_lines, is_lacking}
use Rattle.hushcheck.specs.Names.{Text, read_in}
use Rattle.hushcheck.specs.Report.{asked_names}

abbrev told_of : Option Devices → Text → Result Script SyntaxError → Text
told_of devices text (Ok s) = found_lines (codes "b") text (calls_of devices text s).found
told_of devices text (Err error) = []

abbrev told_in : Option Devices → Text → Text
told_in devices text = told_of devices text (read_in text)

-- the second name of `run`
second_name : told_in None (codes "run a $x") ≡ codes "b:1:7: note: not followed, since the name holds a variable\nrun a $x\n      ^\n"
unfolding whole script command simple keyword next behind sees expect joined joined_all and_or lists lists_all block arm arms arms_all if_command body_of loop_command for_command name name_next expect_in in_next all_words separators separator_next closes_next op_next refusal missing at_last word_next assignment_next assignments reserved_of reserved assignment name_in name_of is_in_word pieces step bare dollar braced inside front word_front digits
second_name = refl

-- variables that are no names of `run`, one of them a command
other_words : told_in None (codes "echo run $a; $run a; x=$a") ≡ codes "b:1:14: note: which variables this sets is not known\necho run $a; $run a; x=$a\n             ^\n"
unfolding whole script command simple keyword next behind sees expect joined joined_all and_or lists lists_all block arm arms arms_all if_command body_of loop_command for_command name name_next expect_in in_next all_words separators separator_next closes_next op_next refusal missing at_last word_next assignment_next assignments reserved_of reserved assignment name_in name_of is_in_word pieces step bare dollar braced inside front word_front digits
other_words = refl

-- after two assignments
behind_assignments : told_in None (codes "x=1 y=2; run $x") ≡ codes "b:1:14: note: not followed, since the name holds a variable\nx=1 y=2; run $x\n             ^\n"
unfolding whole script command simple keyword next behind sees expect joined joined_all and_or lists lists_all block arm arms arms_all if_command body_of loop_command for_command name name_next expect_in in_next all_words separators separator_next closes_next op_next refusal missing at_last word_next assignment_next assignments reserved_of reserved assignment name_in name_of is_in_word pieces step bare dollar braced inside front word_front digits
behind_assignments = refl

-- in a block after `else`
in_else : told_in None (codes "if a; then b c; elif d; then e; else run $x; fi") ≡ codes "b:1:42: note: not followed, since the name holds a variable\nif a; then b c; elif d; then e; else run $x; fi\n                                         ^\n"
unfolding whole script command simple keyword next behind sees expect joined joined_all and_or lists lists_all block arm arms arms_all if_command body_of loop_command for_command name name_next expect_in in_next all_words separators separator_next closes_next op_next refusal missing at_last word_next assignment_next assignments reserved_of reserved assignment name_in name_of is_in_word pieces step bare dollar braced inside front word_front digits
in_else = refl

-- after an `if`
behind_if : told_in None (codes "if a; then b; else c; fi; run $x") ≡ codes "b:1:31: note: not followed, since the name holds a variable\nif a; then b; else c; fi; run $x\n                              ^\n"
unfolding whole script command simple keyword next behind sees expect joined joined_all and_or lists lists_all block arm arms arms_all if_command body_of loop_command for_command name name_next expect_in in_next all_words separators separator_next closes_next op_next refusal missing at_last word_next assignment_next assignments reserved_of reserved assignment name_in name_of is_in_word pieces step bare dollar braced inside front word_front digits
behind_if = refl

-- in a condition
in_condition : told_in None (codes "if run $x; then a; fi") ≡ codes "b:1:8: note: not followed, since the name holds a variable\nif run $x; then a; fi\n       ^\n"
unfolding whole script command simple keyword next behind sees expect joined joined_all and_or lists lists_all block arm arms arms_all if_command body_of loop_command for_command name name_next expect_in in_next all_words separators separator_next closes_next op_next refusal missing at_last word_next assignment_next assignments reserved_of reserved assignment name_in name_of is_in_word pieces step bare dollar braced inside front word_front digits
in_condition = refl

-- in the body of a `for`
in_for : told_in None (codes "for i in a b; do run $i; done") ≡ codes "b:1:22: note: not followed, since the name holds a variable\nfor i in a b; do run $i; done\n                     ^\n"
unfolding whole script command simple keyword next behind sees expect joined joined_all and_or lists lists_all block arm arms arms_all if_command body_of loop_command for_command name name_next expect_in in_next all_words separators separator_next closes_next op_next refusal missing at_last word_next assignment_next assignments reserved_of reserved assignment name_in name_of is_in_word pieces step bare dollar braced inside front word_front digits
in_for = refl

-- after a loop, on line 2
behind_loop : told_in None (codes "while a; do b; done\nrun $x") ≡ codes "b:2:5: note: not followed, since the name holds a variable\nrun $x\n    ^\n"
unfolding whole script command simple keyword next behind sees expect joined joined_all and_or lists lists_all block arm arms arms_all if_command body_of loop_command for_command name name_next expect_in in_next all_words separators separator_next closes_next op_next refusal missing at_last word_next assignment_next assignments reserved_of reserved assignment name_in name_of is_in_word pieces step bare dollar braced inside front word_front digits
behind_loop = refl

-- after `||`
in_joined : told_in None (codes "a b || run \"$x\"") ≡ codes "b:1:12: note: not followed, since the name holds a variable\na b || run \"$x\"\n           ^\n"
unfolding whole script command simple keyword next behind sees expect joined joined_all and_or lists lists_all block arm arms arms_all if_command body_of loop_command for_command name name_next expect_in in_next all_words separators separator_next closes_next op_next refusal missing at_last word_next assignment_next assignments reserved_of reserved assignment name_in name_of is_in_word pieces step bare dollar braced inside front word_front digits
in_joined = refl

-- ---- a device list: a line of a name, a `sub` line, a computed command

abbrev quiet : Effect
quiet = record { ends = None; stays = false; always = None; needs = []; normal = false; runs = []; sets = [] }

abbrev list : Devices
list = record {
  commands = (codes "load", quiet) ∷ [];
  subs = (codes "mmc", (codes "dev", quiet) ∷ []) ∷ [];
  calls = [];
  known = codes "itest" ∷ [];
  test_stays = false;
  choices = [];
  files = [];
}

-- a command that no line names
lacks : is_lacking (Some list) (codes "bootm") ≡ true
lacks = refl

-- a name with a line, with a `sub` line, with a `known` line; a built-in command; no list
has_line : is_lacking (Some list) (codes "load") ≡ false
has_line = refl

has_sub : is_lacking (Some list) (codes "mmc") ≡ false
has_sub = refl

has_known : is_lacking (Some list) (codes "itest") ≡ false
has_known = refl

has_none : is_lacking (Some list) (codes "echo") ≡ false
has_none = refl

no_list : is_lacking None (codes "bootm") ≡ false
no_list = refl

-- one lacking command, in quotes; the list says nothing of a command that a variable names
one_lacking : told_in (Some list) (codes "load a; mmc x && itest 1; $y; 'boot'm a") ≡ codes "b:1:27: note: which variables this sets is not known\nload a; mmc x && itest 1; $y; 'boot'm a\n                          ^\nb:1:31: the device list lacks bootm\nload a; mmc x && itest 1; $y; 'boot'm a\n                              ^\n"
unfolding whole script command simple keyword next behind sees expect joined joined_all and_or lists lists_all block arm arms arms_all if_command body_of loop_command for_command name name_next expect_in in_next all_words separators separator_next closes_next op_next refusal missing at_last word_next assignment_next assignments reserved_of reserved assignment name_in name_of is_in_word pieces step bare dollar braced inside front word_front digits
one_lacking = refl

-- both, in the order of the text
both : told_in (Some list) (codes "run $x; dhcp") ≡ codes "b:1:5: note: not followed, since the name holds a variable\nrun $x; dhcp\n    ^\nb:1:9: the device list lacks dhcp\nrun $x; dhcp\n        ^\n"
unfolding whole script command simple keyword next behind sees expect joined joined_all and_or lists lists_all block arm arms arms_all if_command body_of loop_command for_command name name_next expect_in in_next all_words separators separator_next closes_next op_next refusal missing at_last word_next assignment_next assignments reserved_of reserved assignment name_in name_of is_in_word pieces step bare dollar braced inside front word_front digits
both = refl

-- ---- which names are asked for

asked : asked_names true ((codes "a", codes "1") ∷ (codes "b", codes "2") ∷ []) (codes "b" ∷ []) ≡ codes "b" ∷ codes "a" ∷ codes "b" ∷ []
asked = refl

asked_alone : asked_names false ((codes "a", codes "1") ∷ []) (codes "b" ∷ []) ≡ codes "b" ∷ []
asked_alone = refl
