-- What calls set, and which variables nothing sets, computed.
use Rattle.std.proofs.Common.{◌≡◌, true, false, [], ◌∷◌, Some, None, refl}
use Rattle.std.specs.Prelude.{List, Option, option_map, codes}
use Rattle.std.specs.Fmt.{digits}
use Rattle.envimage.specs.Data.{Pair}
use Rattle.hushlang.specs.Grammar.{reserved_of, assignment, name_in, name_of, is_in_word}
use Rattle.hushlang.specs.Tokenizing.{step, bare, dollar, braced, inside, front, word_front}
use Rattle.hushlang.specs.Tree.{Word, Bytes, Var}
use Rattle.hushlang.specs.Words.{reserved}
use Rattle.hushlang.specs.WordPieces.{pieces}
use Rattle.hushlang.specs.Parsing.{whole, script, command, simple, keyword, next, behind, sees, expect, joined, joined_all, and_or, lists, lists_all, block, arm, arms, arms_all, if_command, body_of, loop_command, for_command, name, name_next, expect_in, in_next, all_words, separators, separator_next, closes_next, op_next, refusal, missing, at_last, word_next, assignment_next, assignments}
use Rattle.device_list.specs.CallLines.{Exactly}
use Rattle.device_list.specs.DeviceList.{Devices, Effect, Setting, Variable, WordAt, LastWord, Literal}
use Rattle.device_list.specs.Imports.{imported}
use Rattle.hushcheck.specs.CallSets.{Sets, none, set_by_call}
use Rattle.hushcheck.specs.Names.{Text}
use Rattle.hushcheck.specs.Report.{lacks_set, last_lines}
use Rattle.hushcheck.specs.Rules.{Rules}
use Rattle.hushcheck.specs.Unset.{used_by_text}

-- ---- calls

abbrev known : List Text → Sets
known names = record none { sets = record { names = names; more = false } }

abbrev unknown : Sets
unknown = record none { sets = record { names = []; more = true } }

-- names that are deleted, and these that are set
abbrev deleting : (deleted names : List Text) → Sets
deleting deleted names = record (known names) { deletes = record { names = deleted; more = false } }

-- or one that is not known
abbrev deleting_more : List Text → Sets
deleting_more names = record none { deletes = record { names = names; more = true } }

abbrev word : Text → Word
word bytes = Bytes bytes ∷ []

abbrev held : Word
held = Var (codes "x") true ∷ []

-- with a value, without one, with an option, and by a name that holds a variable
sets_one : set_by_call None (Some (codes "setenv")) (word (codes "a") ∷ held ∷ []) ≡ known (codes "a" ∷ [])
sets_one = refl

deletes : set_by_call None (Some (codes "setenv")) (word (codes "a") ∷ []) ≡ deleting (codes "a" ∷ []) []
deletes = refl

deletes_held : set_by_call None (Some (codes "env")) (word (codes "set") ∷ held ∷ []) ≡ deleting_more []
deletes_held = refl

-- `env delete`, with an option, with a name that holds a variable, and with an option for all
deletes_named : set_by_call None (Some (codes "env")) (word (codes "delete") ∷ word (codes "-f") ∷ word (codes "a") ∷ []) ≡ deleting (codes "a" ∷ []) []
deletes_named = refl

deletes_one : set_by_call None (Some (codes "env")) (word (codes "delete") ∷ word (codes "a") ∷ held ∷ []) ≡ deleting_more (codes "a" ∷ [])
deletes_one = refl

deletes_all : set_by_call None (Some (codes "env")) (word (codes "delete") ∷ word (codes "-a") ∷ []) ≡ deleting_more []
deletes_all = refl

with_option : set_by_call None (Some (codes "env")) (word (codes "set") ∷ word (codes "-f") ∷ word (codes "a") ∷ word (codes "1") ∷ []) ≡ known (codes "a" ∷ [])
with_option = refl

held_name : set_by_call None (Some (codes "setenv")) (held ∷ word (codes "1") ∷ []) ≡ unknown
held_name = refl

-- `setexpr`; a test of a variable; names from memory; and a command that holds a variable
calculates : set_by_call None (Some (codes "setexpr")) (word (codes "a") ∷ word (codes "1") ∷ []) ≡ known (codes "a" ∷ [])
calculates = refl

asks : set_by_call None (Some (codes "env")) (word (codes "exists") ∷ word (codes "a") ∷ []) ≡ known []
asks = refl

imports : set_by_call None (Some (codes "env")) (word (codes "import") ∷ held ∷ []) ≡ unknown
imports = refl

held_command : set_by_call None None (word (codes "a") ∷ []) ≡ unknown
held_command = refl

-- ---- a device list: a variable, the second word of a call, and its last one

abbrev effect : List Setting → Effect
effect sets = record { ends = None; stays = false; always = None; needs = []; normal = false; runs = []; sets = sets }

abbrev list : Devices
list = record {
  commands = (codes "load", effect ((Variable (codes "filesize"), Literal (codes "1")) ∷ [])) ∷ [];
  subs = (codes "part", (codes "uuid", effect ((WordAt 1, Literal (codes "1")) ∷ (LastWord, Literal (codes "1")) ∷ [])) ∷ []) ∷ [];
  calls = [];
  known = [];
  test_stays = false;
  choices = [];
  files = [];
}

listed : set_by_call (Some list) (Some (codes "load")) (held ∷ []) ≡ known (codes "filesize" ∷ [])
listed = refl

by_words : set_by_call (Some list) (Some (codes "part")) (word (codes "uuid") ∷ word (codes "a") ∷ word (codes "b") ∷ []) ≡ known (codes "a" ∷ codes "b" ∷ [])
by_words = refl

-- a word that holds a variable, and a word that is not there
by_held : set_by_call (Some list) (Some (codes "part")) (word (codes "uuid") ∷ word (codes "a") ∷ held ∷ []) ≡ record none { sets = record { names = codes "a" ∷ []; more = true } }
by_held = refl

by_none : set_by_call (Some list) (Some (codes "part")) (word (codes "uuid") ∷ []) ≡ known (codes "uuid" ∷ [])
by_none = refl

-- ---- a pattern with a variable: it fits the word that is this variable, and no word with further bytes

abbrev patterns : Devices
patterns = record list { calls = (codes "source", (record { words = Exactly (codes "${x}") ∷ []; more = false }, record (effect []) { runs = codes "boot.scr" ∷ [] }) ∷ []) ∷ [] }

runs_held : set_by_call (Some patterns) (Some (codes "source")) (held ∷ []) ≡ record none { runs = codes "boot.scr" ∷ [] }
runs_held = refl

runs_none : set_by_call (Some patterns) (Some (codes "source")) ((Bytes (codes "0") ∷ held) ∷ []) ≡ known []
runs_none = refl

runs_other : set_by_call (Some patterns) (Some (codes "source")) ((Var (codes "y") true ∷ []) ∷ []) ≡ known []
runs_other = refl

-- ---- a text that is imported

abbrev importing : List Setting → Devices
importing sets = record list { commands = (codes "get", effect sets) ∷ (codes "env", effect sets) ∷ [] }

abbrev by_import : (command text : Text) → Option Sets
by_import command text =
    option_map (λ sets. set_by_call (Some (importing sets)) (Some command) (word (codes "import") ∷ [])) (imported text)

-- its names are set, and those that it deletes are not
imports_text : by_import (codes "get") (codes "a=1\nb=\nc\nd=2\n") ≡ Some (deleting (codes "b" ∷ codes "c" ∷ []) (codes "a" ∷ codes "d" ∷ []))
imports_text = refl

-- a name that is set and deleted counts as set; and each reading sets its names
deletes_again : by_import (codes "get") (codes "a=1\na=\n") ≡ Some (deleting (codes "a" ∷ []) (codes "a" ∷ []))
deletes_again = refl

in_readings : by_import (codes "get") (codes "a=1\nb=\r\n") ≡ Some (deleting (codes "b" ∷ codes "b" ∷ []) (codes "a" ∷ codes "b" ∷ codes "a" ∷ codes "a" ∷ []))
in_readings = refl

-- `env import` may set others
imports_more : by_import (codes "env") (codes "a=1\n") ≡ Some (record none { sets = record { names = codes "a" ∷ []; more = true } })
imports_more = refl

-- ---- whole texts, in an environment that has `a`

abbrev rules : Rules
rules = record { devices = None; shell = None; strict = false }

abbrev env : List Pair
env = (codes "a", codes "1") ∷ []

abbrev told_in : Text → Text
told_in text = last_lines env (used_by_text rules (codes "b") text)

-- a variable of the environment; and two that are set, one of them later
quiet : told_in (codes "echo $a $c $i; for i in 1; do c=$i; done") ≡ []
unfolding whole script command simple keyword next behind sees expect joined joined_all and_or lists lists_all block arm arms arms_all if_command body_of loop_command for_command name name_next expect_in in_next all_words separators separator_next closes_next op_next refusal missing at_last word_next assignment_next assignments reserved_of reserved assignment name_in name_of is_in_word pieces step bare dollar braced inside front word_front digits
quiet = refl

-- in a word that is assigned, in quotes and beside other bytes; `c` is reported once
told : told_in (codes "x=$c\ntest \"a${c}$d\"") ≡ codes "b:1:1: warning: nothing sets c\nx=$c\n^\nb:2:6: warning: nothing sets d\ntest \"a${c}$d\"\n     ^\n"
unfolding whole script command simple keyword next behind sees expect joined joined_all and_or lists lists_all block arm arms arms_all if_command body_of loop_command for_command name name_next expect_in in_next all_words separators separator_next closes_next op_next refusal missing at_last word_next assignment_next assignments reserved_of reserved assignment name_in name_of is_in_word pieces step bare dollar braced inside front word_front digits
told = refl

-- the status is no variable, and a text that is refused reads none
no_reads : told_in (codes "echo $? ${?}") ≡ []
unfolding whole script command simple keyword next behind sees expect joined joined_all and_or lists lists_all block arm arms arms_all if_command body_of loop_command for_command name name_next expect_in in_next all_words separators separator_next closes_next op_next refusal missing at_last word_next assignment_next assignments reserved_of reserved assignment name_in name_of is_in_word pieces step bare dollar braced inside front word_front digits
no_reads = refl

refused : told_in (codes "echo $c; fi") ≡ []
unfolding whole script command simple keyword next behind sees expect joined joined_all and_or lists lists_all block arm arms arms_all if_command body_of loop_command for_command name name_next expect_in in_next all_words separators separator_next closes_next op_next refusal missing at_last word_next assignment_next assignments reserved_of reserved assignment name_in name_of is_in_word pieces step bare dollar braced inside front word_front digits
refused = refl

-- a condition that tests it, as real scripts do
tested : lacks_set env (used_by_text rules (codes "b") (codes "if test ${c} -eq 1; then true; fi")) ≡ true
unfolding whole script command simple keyword next behind sees expect joined joined_all and_or lists lists_all block arm arms arms_all if_command body_of loop_command for_command name name_next expect_in in_next all_words separators separator_next closes_next op_next refusal missing at_last word_next assignment_next assignments reserved_of reserved assignment name_in name_of is_in_word pieces step bare dollar braced inside front word_front digits
tested = refl
