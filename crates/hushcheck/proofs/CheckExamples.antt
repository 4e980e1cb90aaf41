-- Worked texts, computed.
use Rattle.std.proofs.Common.{◌≡◌, ℕ, zero, suc, ◌<◌, true, false, List, [], ◌∷◌, length, map, take, Contains, Err, Some, None, refl, sym, subst, arith}
use Rattle.std.specs.Prelude.{codes, slice_index_or}
use Rattle.std.specs.Fmt.{digits}
use Rattle.std.specs.List.{flat_map}
use Rattle.envimage.specs.Data.{Pair}
use Rattle.hushlang.specs.Grammar.{reserved_of, assignment, name_in, name_of, is_in_word}
use Rattle.hushlang.specs.Tokenizing.{step, bare, dollar, braced, inside, front, word_front}
use Rattle.hushlang.specs.Words.{reserved}
use Rattle.hushlang.specs.WordPieces.{pieces}
use Rattle.hushlang.specs.Parsing.{whole, script, command, simple, keyword, next, behind, sees, expect, joined, joined_all, and_or, lists, lists_all, block, arm, arms, arms_all, if_command, body_of, loop_command, for_command, name, name_next, expect_in, in_next, all_words, separators, separator_next, closes_next, op_next, refusal, missing, at_last, word_next, assignment_next, assignments}
use Rattle.hushlang.specs.declared.token.SyntaxError.TheVariants.{Unexpected}
use Rattle.device_list.specs.CallLines.{Exactly, Pattern}
use Rattle.device_list.specs.DeviceList.{Devices, Effect, FileText}
use Rattle.hushcheck.specs.Names.{Text, read_in, run_by_read}
use Rattle.hushcheck.specs.Order.{File, IsOrder, IsReached, Turn, Variable, called_by, files_after, is_asked, is_file, is_run, run_by, variables_after, variables_in}
use Rattle.hushcheck.specs.Place.{place_in}
use Rattle.hushcheck.specs.Report.{fault_lines, lines_of}
use Rattle.hushcheck.specs.Rules.{Rules}

-- a `then` is missing on line 2: the `fi` has no place there
abbrev no_then : Text
no_then = codes "true\nif true; echo x; fi"

no_then_read : read_in no_then ≡ Err (Unexpected 22)
unfolding whole script command simple keyword next behind sees expect joined joined_all and_or lists lists_all block arm arms arms_all if_command body_of loop_command for_command name name_next expect_in in_next all_words separators separator_next closes_next op_next refusal missing at_last word_next assignment_next assignments reserved_of reserved assignment name_in name_of is_in_word pieces step bare dollar braced inside front word_front
no_then_read = refl

no_then_place : place_in no_then 22 ≡ record { line = 2; column = 18 }
no_then_place = refl

no_then_lines : fault_lines (codes "bootcmd") no_then (Unexpected 22) ≡ codes "bootcmd:2:18: unexpected token\nif true; echo x; fi\n                 ^\n"
unfolding digits front word_front step bare
no_then_lines = refl

-- at the end of the text, with a tab in its last line
ends_lines : fault_lines (codes "b") (codes "x\n\tif y") (Unexpected 7) ≡ codes "b:2:6: unexpected end of the text\n\tif y\n\t    ^\n"
unfolding digits
ends_lines = refl

-- bytes that do not print
odd_lines : fault_lines (codes "a") (233 ∷ 32 ∷ 38 ∷ []) (Unexpected 2) ≡ codes "a:1:3: unexpected token\n? &\n  ^\n"
unfolding digits front word_front step bare
odd_lines = refl

-- ---- names that are run

abbrev run_in : Text → List Text
run_in text = run_by_read (read_in text)

-- two names; a name in quotes; a variable, and a name after it; another command; a text without a tree
runs : map run_in (codes "run a b" ∷ codes "if true; then run 'a b'; fi; run c" ∷ codes "run $x y" ∷ codes "echo run a" ∷ codes "run a; fi" ∷ [])
    ≡ (codes "a" ∷ codes "b" ∷ []) ∷ (codes "a b" ∷ codes "c" ∷ []) ∷ (codes "y" ∷ []) ∷ [] ∷ [] ∷ []
unfolding whole script command simple keyword next behind sees expect joined joined_all and_or lists lists_all block arm arms arms_all if_command body_of loop_command for_command name name_next expect_in in_next all_words separators separator_next closes_next op_next refusal missing at_last word_next assignment_next assignments reserved_of reserved assignment name_in name_of is_in_word pieces step bare dollar braced inside front word_front
runs = refl

-- ---- two texts that run each other, and a name that is not set, without a file

abbrev circle : List Pair
circle = (codes "bootcmd", codes "run a x") ∷ (codes "a", codes "run bootcmd; run a") ∷ []

abbrev plain : Rules
plain = record { devices = None; shell = None; strict = false }

abbrev circle_order : List Turn
circle_order = Variable (codes "bootcmd") ∷ Variable (codes "a") ∷ Variable (codes "x") ∷ []

abbrev first_asked : List Text
first_asked = codes "bootcmd" ∷ []

circle_turns : variables_after plain circle first_asked circle_order ≡ codes "bootcmd" ∷ codes "a" ∷ codes "x" ∷ []
unfolding whole script command simple keyword next behind sees expect joined joined_all and_or lists lists_all block arm arms arms_all if_command body_of loop_command for_command name name_next expect_in in_next all_words separators separator_next closes_next op_next refusal missing at_last word_next assignment_next assignments reserved_of reserved assignment name_in name_of is_in_word pieces step bare dollar braced inside front word_front
circle_turns = refl

circle_files : files_after plain circle [] circle_order ≡ []
unfolding whole script command simple keyword next behind sees expect joined joined_all and_or lists lists_all block arm arms arms_all if_command body_of loop_command for_command name name_next expect_in in_next all_words separators separator_next closes_next op_next refusal missing at_last word_next assignment_next assignments reserved_of reserved assignment name_in name_of is_in_word pieces step bare dollar braced inside front word_front
circle_files = refl

first_runs : run_by plain circle (Variable (codes "bootcmd")) ≡ codes "a" ∷ codes "x" ∷ []
unfolding whole script command simple keyword next behind sees expect joined joined_all and_or lists lists_all block arm arms arms_all if_command body_of loop_command for_command name name_next expect_in in_next all_words separators separator_next closes_next op_next refusal missing at_last word_next assignment_next assignments reserved_of reserved assignment name_in name_of is_in_word pieces step bare dollar braced inside front word_front
first_runs = refl

abbrev Reached : Turn → Type 0
Reached = IsReached plain circle first_asked []

reached_first : Reached (Variable (codes "bootcmd"))
reached_first = is_asked (codes "bootcmd") (0, omega arith, refl)

circle_reached : (t : Turn) → Contains circle_order t → Reached t
circle_reached t (zero, h, e) = subst Reached e reached_first
circle_reached t (suc zero, h, e) = subst Reached e (is_run (Variable (codes "bootcmd")) (codes "a") reached_first (rw first_runs (0, omega arith, refl)))
circle_reached t (suc (suc zero), h, e) = subst Reached e (is_run (Variable (codes "bootcmd")) (codes "x") reached_first (rw first_runs (1, omega arith, refl)))
circle_reached t (suc (suc (suc k)), h, e) = absurd (omega (arith, h))

no_wait : (k : ℕ) → k < length circle_order → is_file (slice_index_or circle_order k (Variable [])) ≡ true → variables_in (take k circle_order) ≡ variables_after plain circle first_asked (take k circle_order)
no_wait zero h e = absurd cc
no_wait (suc zero) h e = absurd cc
no_wait (suc (suc zero)) h e = absurd cc
no_wait (suc (suc (suc k))) h e = absurd (omega (arith, h))

circle_is : IsOrder plain circle first_asked [] circle_order
circle_is = record {
  are_turns = record {
    variables = ([], circle_turns);
    files = ([], circle_files);
    files_wait = no_wait;
    reached = circle_reached;
  };
  all_variables = sym circle_turns;
  all_files = sym circle_files;
}

circle_lines : flat_map (lines_of plain circle) circle_order ≡ codes "bootcmd: ok\na: ok\nx: not set\n"
unfolding whole script command simple keyword next behind sees expect joined joined_all and_or lists lists_all block arm arms arms_all if_command body_of loop_command for_command name name_next expect_in in_next all_words separators separator_next closes_next op_next refusal missing at_last word_next assignment_next assignments reserved_of reserved assignment name_in name_of is_in_word pieces step bare dollar braced inside front word_front
circle_lines = refl

-- ---- a file that a text leads to: it has its turn after the variables, and what it runs after it; a file that is named and
-- not called has none

abbrev anything : Pattern
anything = record { words = []; more = true }

abbrev runs_one_of : List Text → Effect
runs_one_of names = record { ends = None; stays = false; always = None; needs = []; normal = false; runs = names; sets = [] }

-- a file that is no image
abbrev file : Text → FileText
file text = record { text = text; size = length text }

abbrev list : Devices
list = record {
  commands = [];
  subs = [];
  calls = (
    codes "source",
    (record { words = Exactly (codes "2") ∷ []; more = false }, runs_one_of (codes "g" ∷ []))
        ∷ (record { words = Exactly (codes "4") ∷ []; more = false }, runs_one_of (codes "g" ∷ codes "f" ∷ []))
        ∷ (anything, runs_one_of (codes "f" ∷ [])) ∷ [],
  ) ∷ [];
  known = [];
  test_stays = false;
  choices = [];
  files = (codes "f", file (codes "run a\ntrue\nfi")) ∷ (codes "g", file (codes "true")) ∷ (codes "h", file (codes "run a; source 2 3")) ∷ (codes "k", file (codes "source 4")) ∷ [];
}

abbrev with_files : Rules
with_files = record { devices = Some list; shell = None; strict = false }

abbrev board : List Pair
board = (codes "bootcmd", codes "source $x; run b") ∷ (codes "b", codes "source 2") ∷ (codes "a", codes "source 2") ∷ []

abbrev board_order : List Turn
board_order = Variable (codes "bootcmd") ∷ Variable (codes "b") ∷ File (codes "f") ∷ File (codes "g") ∷ []

board_variables : variables_after with_files board first_asked board_order ≡ codes "bootcmd" ∷ codes "b" ∷ []
unfolding whole script command simple keyword next behind sees expect joined joined_all and_or lists lists_all block arm arms arms_all if_command body_of loop_command for_command name name_next expect_in in_next all_words separators separator_next closes_next op_next refusal missing at_last word_next assignment_next assignments reserved_of reserved assignment name_in name_of is_in_word pieces step bare dollar braced inside front word_front
board_variables = refl

board_files : files_after with_files board [] board_order ≡ codes "f" ∷ codes "g" ∷ []
unfolding whole script command simple keyword next behind sees expect joined joined_all and_or lists lists_all block arm arms arms_all if_command body_of loop_command for_command name name_next expect_in in_next all_words separators separator_next closes_next op_next refusal missing at_last word_next assignment_next assignments reserved_of reserved assignment name_in name_of is_in_word pieces step bare dollar braced inside front word_front
board_files = refl

-- its lines, with a fault on the third line of a file
board_lines : flat_map (lines_of with_files board) board_order ≡ codes "bootcmd: ok\nb: ok\nf:3:1: unexpected token\nfi\n^\ng: ok\n"
unfolding whole script command simple keyword next behind sees expect joined joined_all and_or lists lists_all block arm arms arms_all if_command body_of loop_command for_command name name_next expect_in in_next all_words separators separator_next closes_next op_next refusal missing at_last word_next assignment_next assignments reserved_of reserved assignment name_in name_of is_in_word pieces step bare dollar braced inside front word_front digits
board_lines = refl

-- what a file runs, and calls
file_runs : run_by with_files board (File (codes "h")) ≡ codes "a" ∷ []
unfolding whole script command simple keyword next behind sees expect joined joined_all and_or lists lists_all block arm arms arms_all if_command body_of loop_command for_command name name_next expect_in in_next all_words separators separator_next closes_next op_next refusal missing at_last word_next assignment_next assignments reserved_of reserved assignment name_in name_of is_in_word pieces step bare dollar braced inside front word_front
file_runs = refl

file_calls : called_by with_files board (File (codes "h")) ≡ codes "f" ∷ []
unfolding whole script command simple keyword next behind sees expect joined joined_all and_or lists lists_all block arm arms arms_all if_command body_of loop_command for_command name name_next expect_in in_next all_words separators separator_next closes_next op_next refusal missing at_last word_next assignment_next assignments reserved_of reserved assignment name_in name_of is_in_word pieces step bare dollar braced inside front word_front
file_calls = refl

-- a call that runs one of two files leads to both
two_called : called_by with_files board (File (codes "k")) ≡ codes "g" ∷ codes "f" ∷ []
unfolding whole script command simple keyword next behind sees expect joined joined_all and_or lists lists_all block arm arms arms_all if_command body_of loop_command for_command name name_next expect_in in_next all_words separators separator_next closes_next op_next refusal missing at_last word_next assignment_next assignments reserved_of reserved assignment name_in name_of is_in_word pieces step bare dollar braced inside front word_front
two_called = refl
