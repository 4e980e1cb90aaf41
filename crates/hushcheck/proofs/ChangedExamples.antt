-- What texts change, computed.
use Rattle.std.proofs.Common.{◌≡◌, ℕ, zero, suc, ◌<◌, true, false, List, [], ◌∷◌, length, map, take, Contains, Some, None, refl, sym, subst, arith}
use Rattle.std.specs.Prelude.{codes, slice_index_or}
use Rattle.envimage.specs.Data.{Pair}
use Rattle.hushlang.specs.Grammar.{reserved_of, assignment, name_in, name_of, is_in_word}
use Rattle.hushlang.specs.Tokenizing.{step, bare, dollar, braced, inside, front, word_front}
use Rattle.hushlang.specs.Words.{reserved}
use Rattle.hushlang.specs.WordPieces.{pieces}
use Rattle.hushlang.specs.Parsing.{whole, script, command, simple, keyword, next, behind, sees, expect, joined, joined_all, and_or, lists, lists_all, block, arm, arms, arms_all, if_command, body_of, loop_command, for_command, name, name_next, expect_in, in_next, all_words, separators, separator_next, closes_next, op_next, refusal, missing, at_last, word_next, assignment_next, assignments}
use Rattle.device_list.specs.DeviceList.{Effect, Variable, LastWord, Literal, Deleted, only}
use Rattle.hushcheck.specs.Changed.{Changed, ChangesFrom, changed_after, changed_by, changed_by_text, nothing, with_changed}
use Rattle.hushcheck.specs.Names.{Text}
use Rattle.hushcheck.specs.Order.{IsReached, Turn, Variable as variable, files_after, is_asked, is_file, is_run, run_by, variables_after, variables_in}
use Rattle.hushcheck.specs.Rules.{Rules}

abbrev plain : Rules
plain = record { devices = None; shell = None; strict = false }

abbrev these : List Text → Changed
these names = record { names = names; more = false }

abbrev others : List Text → Changed
others names = record { names = names; more = true }

-- ---- a text

-- one is set, and another is deleted
sets_and_deletes : changed_by_text plain (codes "setenv b; setenv a 1") ≡ these (codes "a" ∷ codes "b" ∷ [])
unfolding whole script command simple keyword next behind sees expect joined joined_all and_or lists lists_all block arm arms arms_all if_command body_of loop_command for_command name name_next expect_in in_next all_words separators separator_next closes_next op_next refusal missing at_last word_next assignment_next assignments reserved_of reserved assignment name_in name_of is_in_word pieces step bare dollar braced inside front word_front
sets_and_deletes = refl

-- assignments, loops, and blocks
in_blocks : changed_by_text plain (codes "if x=1; then env delete a c; else for i in 1; do setexpr b 1; done; fi") ≡ these (codes "x" ∷ codes "i" ∷ codes "b" ∷ codes "a" ∷ codes "c" ∷ [])
unfolding whole script command simple keyword next behind sees expect joined joined_all and_or lists lists_all block arm arms arms_all if_command body_of loop_command for_command name name_next expect_in in_next all_words separators separator_next closes_next op_next refusal missing at_last word_next assignment_next assignments reserved_of reserved assignment name_in name_of is_in_word pieces step bare dollar braced inside front word_front
in_blocks = refl

-- a name that holds a variable, which is set or deleted; all names; a text that is not known
computed : changed_by_text plain (codes "setenv a_${b} 1; setenv c 1") ≡ others (codes "c" ∷ [])
unfolding whole script command simple keyword next behind sees expect joined joined_all and_or lists lists_all block arm arms arms_all if_command body_of loop_command for_command name name_next expect_in in_next all_words separators separator_next closes_next op_next refusal missing at_last word_next assignment_next assignments reserved_of reserved assignment name_in name_of is_in_word pieces step bare dollar braced inside front word_front
computed = refl

computed_deleted : changed_by_text plain (codes "setenv $a") ≡ others []
unfolding whole script command simple keyword next behind sees expect joined joined_all and_or lists lists_all block arm arms arms_all if_command body_of loop_command for_command name name_next expect_in in_next all_words separators separator_next closes_next op_next refusal missing at_last word_next assignment_next assignments reserved_of reserved assignment name_in name_of is_in_word pieces step bare dollar braced inside front word_front
computed_deleted = refl

defaults : changed_by_text plain (codes "env default -a") ≡ others []
unfolding whole script command simple keyword next behind sees expect joined joined_all and_or lists lists_all block arm arms arms_all if_command body_of loop_command for_command name name_next expect_in in_next all_words separators separator_next closes_next op_next refusal missing at_last word_next assignment_next assignments reserved_of reserved assignment name_in name_of is_in_word pieces step bare dollar braced inside front word_front
defaults = refl

unknown_text : changed_by_text plain (codes "run $a; setenv b 1") ≡ others (codes "b" ∷ [])
unfolding whole script command simple keyword next behind sees expect joined joined_all and_or lists lists_all block arm arms arms_all if_command body_of loop_command for_command name name_next expect_in in_next all_words separators separator_next closes_next op_next refusal missing at_last word_next assignment_next assignments reserved_of reserved assignment name_in name_of is_in_word pieces step bare dollar braced inside front word_front
unknown_text = refl

-- a text that is refused changes nothing
refused : changed_by_text plain (codes "setenv a 1; env default -a; fi") ≡ nothing
unfolding whole script command simple keyword next behind sees expect joined joined_all and_or lists lists_all block arm arms arms_all if_command body_of loop_command for_command name name_next expect_in in_next all_words separators separator_next closes_next op_next refusal missing at_last word_next assignment_next assignments reserved_of reserved assignment name_in name_of is_in_word pieces step bare dollar braced inside front word_front
refused = refl

-- ---- a device list: a variable that is set, one that is deleted, and one that the last word names

abbrev effect : Effect
effect = record {
  ends = None;
  stays = false;
  always = None;
  needs = [];
  normal = false;
  runs = [];
  sets = (Variable (codes "c"), Deleted) ∷ (Variable (codes "a"), Literal (codes "1")) ∷ (LastWord, Deleted) ∷ [];
}

abbrev listed : Rules
listed = record plain { devices = Some (only ((codes "get", effect) ∷ [])) }

by_list : changed_by_text listed (codes "get b") ≡ these (codes "a" ∷ codes "c" ∷ codes "b" ∷ [])
unfolding whole script command simple keyword next behind sees expect joined joined_all and_or lists lists_all block arm arms arms_all if_command body_of loop_command for_command name name_next expect_in in_next all_words separators separator_next closes_next op_next refusal missing at_last word_next assignment_next assignments reserved_of reserved assignment name_in name_of is_in_word pieces step bare dollar braced inside front word_front
by_list = refl

by_list_held : changed_by_text listed (codes "get $b") ≡ others (codes "a" ∷ codes "c" ∷ [])
unfolding whole script command simple keyword next behind sees expect joined joined_all and_or lists lists_all block arm arms arms_all if_command body_of loop_command for_command name name_next expect_in in_next all_words separators separator_next closes_next op_next refusal missing at_last word_next assignment_next assignments reserved_of reserved assignment name_in name_of is_in_word pieces step bare dollar braced inside front word_front
by_list_held = refl

-- ---- what is reached: a text that runs another one, which changes a variable again; and a text that nothing runs

abbrev env : List Pair
env = (codes "bootcmd", codes "setenv a 1; run d; setenv b") ∷ (codes "d", codes "setenv b 2; env delete c a") ∷ (codes "e", codes "setenv z 1") ∷ []

abbrev order : List Turn
order = variable (codes "bootcmd") ∷ variable (codes "d") ∷ []

changed_in_order : changed_after nothing (map (changed_by plain env) order) ≡ these (codes "a" ∷ codes "b" ∷ codes "c" ∷ [])
unfolding whole script command simple keyword next behind sees expect joined joined_all and_or lists lists_all block arm arms arms_all if_command body_of loop_command for_command name name_next expect_in in_next all_words separators separator_next closes_next op_next refusal missing at_last word_next assignment_next assignments reserved_of reserved assignment name_in name_of is_in_word pieces step bare dollar braced inside front word_front
changed_in_order = refl

all_variables : variables_after plain env (codes "bootcmd" ∷ []) order ≡ codes "bootcmd" ∷ codes "d" ∷ []
unfolding whole script command simple keyword next behind sees expect joined joined_all and_or lists lists_all block arm arms arms_all if_command body_of loop_command for_command name name_next expect_in in_next all_words separators separator_next closes_next op_next refusal missing at_last word_next assignment_next assignments reserved_of reserved assignment name_in name_of is_in_word pieces step bare dollar braced inside front word_front
all_variables = refl

all_files : files_after plain env [] order ≡ []
unfolding whole script command simple keyword next behind sees expect joined joined_all and_or lists lists_all block arm arms arms_all if_command body_of loop_command for_command name name_next expect_in in_next all_words separators separator_next closes_next op_next refusal missing at_last word_next assignment_next assignments reserved_of reserved assignment name_in name_of is_in_word pieces step bare dollar braced inside front word_front
all_files = refl

first_runs : run_by plain env (variable (codes "bootcmd")) ≡ codes "d" ∷ []
unfolding whole script command simple keyword next behind sees expect joined joined_all and_or lists lists_all block arm arms arms_all if_command body_of loop_command for_command name name_next expect_in in_next all_words separators separator_next closes_next op_next refusal missing at_last word_next assignment_next assignments reserved_of reserved assignment name_in name_of is_in_word pieces step bare dollar braced inside front word_front
first_runs = refl

abbrev Reached : Turn → Type 0
Reached = IsReached plain env (codes "bootcmd" ∷ []) []

reached_first : Reached (variable (codes "bootcmd"))
reached_first = is_asked (codes "bootcmd") (0, omega arith, refl)

all_reached : (t : Turn) → Contains order t → Reached t
all_reached t (zero, h, e) = subst Reached e reached_first
all_reached t (suc zero, h, e) = subst Reached e (is_run (variable (codes "bootcmd")) (codes "d") reached_first (rw first_runs (0, omega arith, refl)))
all_reached t (suc (suc k), h, e) = absurd (omega (arith, h))

no_wait : (k : ℕ) → k < length order → is_file (slice_index_or order k (variable [])) ≡ true → variables_in (take k order) ≡ variables_after plain env (codes "bootcmd" ∷ []) (take k order)
no_wait zero h e = absurd cc
no_wait (suc zero) h e = absurd cc
no_wait (suc (suc k)) h e = absurd (omega (arith, h))

from_variable : ChangesFrom plain env (codes "bootcmd") None (these (codes "a" ∷ codes "b" ∷ codes "c" ∷ []))
from_variable = record {
  order = order;
  is_order = record {
    are_turns = record {
      variables = ([], all_variables);
      files = ([], all_files);
      files_wait = no_wait;
      reached = all_reached;
    };
    all_variables = sym all_variables;
    all_files = sym all_files;
  };
  after_is = sym changed_in_order;
}

-- a text that comes first, and then the one that it runs
behind_text : changed_after (with_changed nothing (changed_by_text plain (codes "run d; setenv c 1; setenv e"))) (map (changed_by plain env) (variable (codes "d") ∷ [])) ≡ these (codes "c" ∷ codes "e" ∷ codes "b" ∷ codes "a" ∷ [])
unfolding whole script command simple keyword next behind sees expect joined joined_all and_or lists lists_all block arm arms arms_all if_command body_of loop_command for_command name name_next expect_in in_next all_words separators separator_next closes_next op_next refusal missing at_last word_next assignment_next assignments reserved_of reserved assignment name_in name_of is_in_word pieces step bare dollar braced inside front word_front
behind_text = refl
