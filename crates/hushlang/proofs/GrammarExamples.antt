-- The examples of the language's description, computed.
use Rattle.std.proofs.Common.{◌≡◌, true, false, List, [], ◌∷◌, ◌++◌, map, refl}
use Rattle.std.specs.Prelude.{codes}
use Rattle.hushlang.specs.WordPieces.{pieces}
use Rattle.hushlang.specs.Tree as tree
use Rattle.hushlang.specs.Token.{Plain, Kept, Mark, Var, Status, Token, sign, word, End, Whole, Refused}
use Rattle.hushlang.specs.Tokenizing.{Lexed, lexed, step, bare, dollar, braced, inside, front, word_front}
use Rattle.hushlang.specs.declared.token.Kind.TheVariants as kinds
use Rattle.hushlang.specs.declared.token.SyntaxError.TheVariants.{OpenQuote, LoneBackslash, OpenBrace, BadVariable, SingleAmp, SinglePipe}

abbrev gives : List Token → End → Lexed
gives tokens end = record { tokens = tokens; end = end }

-- `a;b&&c` and a newline
signs : lexed 0 (codes "a;b&&c" ++ 10 ∷ []) ≡ gives (word 0 1 (Plain 97 ∷ []) ∷ sign kinds.Semi 1 2 ∷ word 2 3 (Plain 98 ∷ []) ∷ sign kinds.AndAnd 3 5 ∷ word 5 6 (Plain 99 ∷ []) ∷ sign kinds.Newline 6 7 ∷ []) Whole
unfolding step bare dollar braced inside front word_front
signs = refl

-- a'b'"c$d"\e #x
quotes : lexed 0 (codes "a'b'\"c$d\"\\e #x") ≡ gives (word 0 11 (Plain 97 ∷ Mark ∷ Kept 98 ∷ Mark ∷ Kept 99 ∷ Var (100 ∷ []) false ∷ Kept 101 ∷ []) ∷ []) Whole
unfolding step bare dollar braced inside front word_front
quotes = refl

-- f, a backslash, a newline, i
vanishing : lexed 0 (102 ∷ 92 ∷ 10 ∷ 105 ∷ []) ≡ gives (word 0 4 (Plain 102 ∷ Plain 105 ∷ []) ∷ []) Whole
unfolding step bare dollar braced inside front word_front
vanishing = refl

open_quote : (lexed 0 (codes "echo \"a")).end ≡ Refused (OpenQuote 5)
unfolding step bare dollar braced inside front word_front
open_quote = refl

lone_backslash : (lexed 0 (codes "echo a\\")).end ≡ Refused (LoneBackslash 6)
unfolding step bare dollar braced inside front word_front
lone_backslash = refl

open_brace : (lexed 0 (codes "echo ${a")).end ≡ Refused (OpenBrace 5)
unfolding step bare dollar braced inside front word_front
open_brace = refl

bad_variable : (lexed 0 (codes "echo ${a:-b}")).end ≡ Refused (BadVariable 5)
unfolding step bare dollar braced inside front word_front
bad_variable = refl

single_amp : (lexed 0 (codes "a & b")).end ≡ Refused (SingleAmp 2)
unfolding step bare dollar braced inside front word_front
single_amp = refl

single_pipe : (lexed 0 (codes "a | b")).end ≡ Refused (SinglePipe 2)
unfolding step bare dollar braced inside front word_front
single_pipe = refl

split_amp : lexed 0 (38 ∷ 92 ∷ 10 ∷ 38 ∷ []) ≡ gives [] (Refused (SingleAmp 0))
unfolding step bare dollar braced inside front word_front
split_amp = refl

nothing : lexed 0 [] ≡ gives [] Whole
unfolding step bare dollar braced inside front word_front
nothing = refl

-- its pieces: Bytes a, Mark, Bytes b, Mark, Bytes c, Var d not split, Bytes e
quoted_pieces : map (λ t. pieces t.parts) (lexed 0 (codes "a'b'\"c$d\"\\e #x")).tokens ≡ (tree.Bytes (codes "a") ∷ tree.Mark ∷ tree.Bytes (codes "b") ∷ tree.Mark ∷ tree.Bytes (codes "c") ∷ tree.Var (codes "d") false ∷ tree.Bytes (codes "e") ∷ []) ∷ []
unfolding step bare dollar braced inside front word_front pieces
quoted_pieces = refl

-- a `#` after a pair that vanishes: inside a word it is a byte, at the start of a word a comment
joined_sharp : lexed 0 (codes "a" ++ 92 ∷ 10 ∷ codes "#b") ≡ gives (word 0 5 (Plain 97 ∷ Plain 35 ∷ Plain 98 ∷ []) ∷ []) Whole
unfolding step bare dollar braced inside front word_front
joined_sharp = refl

comment_behind_pair : lexed 0 (codes "a " ++ 92 ∷ 10 ∷ codes "#b") ≡ gives (word 0 1 (Plain 97 ∷ []) ∷ []) Whole
unfolding step bare dollar braced inside front word_front
comment_behind_pair = refl

-- a pair after the last piece is outside the word
pair_outside : lexed 0 (codes "a" ++ 92 ∷ 10 ∷ codes ";") ≡ gives (word 0 1 (Plain 97 ∷ []) ∷ sign kinds.Semi 3 4 ∷ []) Whole
unfolding step bare dollar braced inside front word_front
pair_outside = refl

-- what is refused inside a double quote comes before the quote itself
brace_in_quote : (lexed 0 (codes "\"${a")).end ≡ Refused (OpenBrace 1)
unfolding step bare dollar braced inside front word_front
brace_in_quote = refl

backslash_in_quote : (lexed 0 (codes "\"a\\")).end ≡ Refused (OpenQuote 0)
unfolding step bare dollar braced inside front word_front
backslash_in_quote = refl

-- brace bytes, or none, up to the end of the text
brace_at_end : (lexed 0 (codes "a ${")).end ≡ Refused (OpenBrace 2)
unfolding step bare dollar braced inside front word_front
brace_at_end = refl

no_name : (lexed 0 (codes "${}")).end ≡ Refused (BadVariable 0)
unfolding step bare dollar braced inside front word_front
no_name = refl

open_single : (lexed 0 (codes "echo 'a")).end ≡ Refused (OpenQuote 5)
unfolding step bare dollar braced inside front word_front
open_single = refl

-- the first fault of a word, read from the left
first_fault : (lexed 0 (codes "${a:b}\"c")).end ≡ Refused (BadVariable 0)
unfolding step bare dollar braced inside front word_front
first_fault = refl

-- `$` before a digit or another `$` is an ordinary byte
plain_dollars : lexed 0 (codes "$1$$") ≡ gives (word 0 4 (Plain 36 ∷ Plain 49 ∷ Plain 36 ∷ Plain 36 ∷ []) ∷ []) Whole
unfolding step bare dollar braced inside front word_front
plain_dollars = refl

statuses : lexed 0 (codes "$?${?}") ≡ gives (word 0 6 (Status ∷ Status ∷ []) ∷ []) Whole
unfolding step bare dollar braced inside front word_front
statuses = refl

brace_name : lexed 0 (codes "${a.b}c") ≡ gives (word 0 7 (Var (97 ∷ 46 ∷ 98 ∷ []) true ∷ Plain 99 ∷ []) ∷ []) Whole
unfolding step bare dollar braced inside front word_front
brace_name = refl

-- quotes that hold nothing are a word
empty_quotes : lexed 0 (codes "'' \"\"") ≡ gives (word 0 2 (Mark ∷ []) ∷ word 3 5 (Mark ∷ []) ∷ []) Whole
unfolding step bare dollar braced inside front word_front
empty_quotes = refl

-- `#` inside a word is a byte of it; a backslash does not lengthen a comment
sharp_in_word : lexed 0 (codes "a#b") ≡ gives (word 0 3 (Plain 97 ∷ Plain 35 ∷ Plain 98 ∷ []) ∷ []) Whole
unfolding step bare dollar braced inside front word_front
sharp_in_word = refl

comment_with_backslash : lexed 0 (codes "#a\\" ++ 10 ∷ codes "b") ≡ gives (sign kinds.Newline 3 4 ∷ word 4 5 (Plain 98 ∷ []) ∷ []) Whole
unfolding step bare dollar braced inside front word_front
comment_with_backslash = refl

-- in double quotes a backslash before another byte is itself, and vanishes with a newline
quoted_backslashes : lexed 0 (codes "\"\\a\\$" ++ 92 ∷ 10 ∷ codes "\"") ≡ gives (word 0 8 (Mark ∷ Kept 92 ∷ Kept 97 ∷ Kept 36 ∷ []) ∷ []) Whole
unfolding step bare dollar braced inside front word_front
quoted_backslashes = refl
