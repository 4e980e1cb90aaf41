-- Texts and what they are read as, computed.
use Rattle.std.proofs.Common.{◌≡◌, ℕ, zero, suc, ◌+◌, true, List, [], ◌∷◌, ◌++◌, map, take, Option, Some, None, Ok, Err, Result, refl}
use Rattle.std.specs.Prelude.{codes}
use Rattle.hushlang.specs.Tree.{Script, Empty, Runs, Starts, Alone, Joins, Simple, Assign, If, Loop, For, Arm, Else, NoElse, Bytes, Mark, Var, Command, Word}
use Rattle.hushlang.specs.Tokenizing.{step, bare, dollar, braced, inside, front, word_front}
use Rattle.hushlang.specs.Grammar.{reserved_of, assignment, name_in, name_of, is_in_word, max_nesting}
use Rattle.hushlang.specs.Words.{reserved}
use Rattle.hushlang.specs.WordPieces.{pieces}
use Rattle.hushlang.specs.Parsing.{whole, script, command, simple, keyword, next, behind, sees, expect, joined, joined_all, and_or, lists, lists_all, block, arm, arms, arms_all, if_command, body_of, loop_command, for_command, name, name_next, expect_in, in_next, all_words, separators, separator_next, closes_next, op_next, refusal, missing, at_last, word_next, assignment_next, assignments}
use Rattle.hushlang.specs.CursorShown.{input_in}
use Rattle.hushlang.specs.declared.tree.Op.TheVariants.{And, Or}
use Rattle.hushlang.specs.declared.token.SyntaxError.{SyntaxError}
use Rattle.hushlang.specs.declared.token.SyntaxError.TheVariants as error

-- ---- refusals

abbrev refusals : List (List ℕ × SyntaxError)
refusals =
    (codes "echo \"a", error.OpenQuote 5)
    ∷ (codes "echo a\\", error.LoneBackslash 6)
    ∷ (codes "echo ${a", error.OpenBrace 5)
    ∷ (codes "echo ${a:-b}", error.BadVariable 5)
    ∷ (codes "a & b", error.SingleAmp 2)
    ∷ (codes "a | b", error.SinglePipe 2)
    ∷ (codes "if true; then", error.Unexpected 13)
    ∷ (codes "fi", error.Unexpected 0)
    ∷ (codes "a &&", error.Unexpected 4)
    ∷ (codes "for 1 in a; do b; done", error.MissingWord 4)
    ∷ (codes "for x a", error.MissingWord 6)
    ∷ (codes "x=1 load", error.AssignmentBeforeCommand 4)
    -- the two bytes of a word that vanish do not keep it from being reserved
    ∷ (102 ∷ 92 ∷ 10 ∷ 105 ∷ [], error.Unexpected 0)
    ∷ (38 ∷ 92 ∷ 10 ∷ 38 ∷ [], error.SingleAmp 0)
    ∷ (codes "if a; then b; else c; elif d; then e; fi", error.Unexpected 22)
    ∷ (codes "for x in a do b; done", error.Unexpected 17)
    -- a token with which no script goes on is refused before a later fault
    ∷ (codes "; then \"a", error.Unexpected 2)
    ∷ []

pub refused : map (λ (row : List ℕ × SyntaxError). whole max_nesting (input_in row.0)) refusals ≡ map (λ (row : List ℕ × SyntaxError). Err row.1) refusals
unfolding whole script command simple keyword next behind sees expect joined joined_all and_or lists lists_all block arm arms arms_all if_command body_of loop_command for_command name name_next expect_in in_next all_words separators separator_next closes_next op_next refusal missing at_last word_next assignment_next assignments reserved_of reserved assignment name_in name_of is_in_word pieces step bare dollar braced inside front word_front
refused = refl

-- ---- each cut of `if true; then echo x; fi`

abbrev said : Result Script SyntaxError → Option SyntaxError
said (Ok s) = None
said (Err e) = Some e

abbrev cut_text : List ℕ
cut_text = codes "if true; then echo x; fi"

-- this many sizes, counted up from the first
abbrev sizes_from : ℕ → ℕ → List ℕ
sizes_from n zero = []
sizes_from n (suc count) = n ∷ sizes_from (n + 1) count

pub cuts : map (λ n. said (whole max_nesting (input_in (take n cut_text)))) (sizes_from 2 22) ≡ map (λ n. Some (error.Unexpected n)) (sizes_from 2 22)
unfolding whole script command simple keyword next behind sees expect joined joined_all and_or lists lists_all block arm arms arms_all if_command body_of loop_command for_command name name_next expect_in in_next all_words separators separator_next closes_next op_next refusal missing at_last word_next assignment_next assignments reserved_of reserved assignment name_in name_of is_in_word pieces step bare dollar braced inside front word_front
cuts = refl

pub whole_cuts : map (λ n. said (whole max_nesting (input_in (take n cut_text)))) (0 ∷ 1 ∷ 24 ∷ []) ≡ None ∷ None ∷ None ∷ []
unfolding whole script command simple keyword next behind sees expect joined joined_all and_or lists lists_all block arm arms arms_all if_command body_of loop_command for_command name name_next expect_in in_next all_words separators separator_next closes_next op_next refusal missing at_last word_next assignment_next assignments reserved_of reserved assignment name_in name_of is_in_word pieces step bare dollar braced inside front word_front
whole_cuts = refl

-- ---- levels

abbrev times : ℕ → List ℕ → List ℕ
times zero text = []
times (suc n) text = text ++ times n text

abbrev nested : ℕ → List ℕ
nested n = times n (codes "if true; then ") ++ codes "a; " ++ times n (codes "fi; ")

pub deepest : said (whole max_nesting (input_in (nested 64))) ≡ None
unfolding whole script command simple keyword next behind sees expect joined joined_all and_or lists lists_all block arm arms arms_all if_command body_of loop_command for_command name name_next expect_in in_next all_words separators separator_next closes_next op_next refusal missing at_last word_next assignment_next assignments reserved_of reserved assignment name_in name_of is_in_word pieces step bare dollar braced inside front word_front
deepest = refl

pub too_deep : said (whole max_nesting (input_in (nested 65))) ≡ Some (error.TooDeep 896)
unfolding whole script command simple keyword next behind sees expect joined joined_all and_or lists lists_all block arm arms arms_all if_command body_of loop_command for_command name name_next expect_in in_next all_words separators separator_next closes_next op_next refusal missing at_last word_next assignment_next assignments reserved_of reserved assignment name_in name_of is_in_word pieces step bare dollar braced inside front word_front
too_deep = refl

pub only_openings : said (whole max_nesting (input_in (times 65 (codes "if true; then ")))) ≡ Some (error.TooDeep 896)
unfolding whole script command simple keyword next behind sees expect joined joined_all and_or lists lists_all block arm arms arms_all if_command body_of loop_command for_command name name_next expect_in in_next all_words separators separator_next closes_next op_next refusal missing at_last word_next assignment_next assignments reserved_of reserved assignment name_in name_of is_in_word pieces step bare dollar braced inside front word_front
only_openings = refl

-- ---- trees

abbrev one : List ℕ → Word
one bytes = Bytes bytes ∷ []

abbrev runs : Command → Script
runs c = Runs (Starts c Alone) Empty

abbrev says : List ℕ → Command
says bytes = Simple (one bytes ∷ [])

abbrev trees : List (List ℕ × Script)
trees =
    ([], Empty)
    ∷ (codes "# a", Empty)
    ∷ (codes "a && b || c", Runs (Starts (says (codes "a")) (Joins And (says (codes "b")) (Joins Or (says (codes "c")) Alone))) Empty)
    ∷ (codes "a;b", Runs (Starts (says (codes "a")) Alone) (runs (says (codes "b"))))
    ∷ (codes "x\\=1", runs (says (codes "x=1")))
    ∷ (codes "x= y=$z'1'", runs (Assign ((codes "x", []) ∷ (codes "y", Var (codes "z") true ∷ Mark ∷ Bytes (codes "1") ∷ []) ∷ [])))
    ∷ (codes "echo if x=1", runs (Simple (one (codes "echo") ∷ one (codes "if") ∷ one (codes "x=1") ∷ [])))
    ∷ (codes "if a; then b; elif c; then d; else e; fi", runs (If (Arm (runs (says (codes "a"))) (runs (says (codes "b"))) (Arm (runs (says (codes "c"))) (runs (says (codes "d"))) (Else (runs (says (codes "e"))))))))
    ∷ (codes "if if a; then b; fi then c; fi", runs (If (Arm (runs (If (Arm (runs (says (codes "a"))) (runs (says (codes "b"))) NoElse))) (runs (says (codes "c"))) NoElse)))
    ∷ (codes "until a; do b; done", runs (Loop true (runs (says (codes "a"))) (runs (says (codes "b")))))
    ∷ (codes "for x in a $y; do b; done", runs (For (codes "x") (one (codes "a") ∷ (Var (codes "y") true ∷ []) ∷ []) (runs (says (codes "b")))))
    ∷ []

pub read : map (λ (row : List ℕ × Script). whole max_nesting (input_in row.0)) trees ≡ map (λ (row : List ℕ × Script). Ok row.1) trees
unfolding whole script command simple keyword next behind sees expect joined joined_all and_or lists lists_all block arm arms arms_all if_command body_of loop_command for_command name name_next expect_in in_next all_words separators separator_next closes_next op_next refusal missing at_last word_next assignment_next assignments reserved_of reserved assignment name_in name_of is_in_word pieces step bare dollar braced inside front word_front
read = refl
