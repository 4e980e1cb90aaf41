-- The tree of a text, computed. `IsTreeOf` of the language says what the tree is, and a law says that this is it. Ours.
use Rattle.std.specs.Prelude.{ℕ, List, Option, Some, None, Result, Ok, Err}
use Rattle.hushlang.specs.Tree.{Script}
use Rattle.hushlang.specs.Grammar.{reserved_of, assignment, name_in, name_of, is_in_word, max_nesting}
use Rattle.hushlang.specs.Tokenizing.{step, bare, dollar, braced, inside, front, word_front}
use Rattle.hushlang.specs.Words.{reserved}
use Rattle.hushlang.specs.WordPieces.{pieces}
use Rattle.hushlang.specs.Parsing.{whole, script, command, simple, keyword, next, behind, sees, expect, joined, joined_all, and_or, lists, lists_all, block, arm, arms, arms_all, if_command, body_of, loop_command, for_command, name, name_next, expect_in, in_next, all_words, separators, separator_next, closes_next, op_next, refusal, missing, at_last, word_next, assignment_next, assignments}
use Rattle.hushlang.specs.CursorShown.{input_in}
use Rattle.hushlang.specs.declared.token.SyntaxError.{SyntaxError}

abbrev pub script_in : Result Script SyntaxError → Option Script
script_in (Ok tree) = Some tree
script_in (Err e) = None

-- the tree of a text, if it has one
unfoldable pub tree_of : List ℕ → Option Script
unfolding whole script command simple keyword next behind sees expect joined joined_all and_or lists lists_all block
    arm arms arms_all if_command body_of loop_command for_command name name_next expect_in in_next all_words
    separators separator_next closes_next op_next refusal missing at_last word_next assignment_next assignments
    reserved_of reserved assignment name_in name_of is_in_word pieces step bare dollar braced inside front word_front
tree_of text = script_in (whole max_nesting (input_in text))
