-- The tokens of a text, computed. `Spells` says what they are.
-- Ours.
use Rattle.std.specs.Prelude.{ℕ, zero, suc, ◌+◌, ◌-◌, Bool, true, false, not, ◌&&◌, ◌==◌, if◌then◌else◌, List, [], ◌∷◌, ◌++◌, length, take, drop}
use Rattle.std.specs.List.{prefix_len}
use Rattle.text.specs.Bytes as ascii
use Rattle.text.specs.Words.{is_space}
use Rattle.hushlang.specs.ByteClasses.{is_separator, begins_name, is_name_byte, is_brace_byte, is_escapable, begins}
use Rattle.hushlang.specs.Token.{Part, Plain, Kept, Mark, Var, Status, Token, sign, word, End, Whole, Refused}
use Rattle.hushlang.specs.Spelling.{dollar_itself}
use Rattle.hushlang.specs.declared.word_parts.Mode.{Mode}
use Rattle.hushlang.specs.declared.word_parts.Mode.TheVariants.{Bare, Single, Double}
use Rattle.hushlang.specs.declared.token.Kind.TheVariants as kinds
use Rattle.hushlang.specs.declared.token.SyntaxError.{SyntaxError}
use Rattle.hushlang.specs.declared.token.SyntaxError.TheVariants.{OpenQuote, LoneBackslash, OpenBrace, BadVariable, SingleAmp, SinglePipe}

-- what a look at the start of a text finds
pub data Step : Type 0 where
  -- a byte, and this many after it, with these parts; reading goes on in this mode
  Goes : (mode : Mode) → (skip : ℕ) → (parts : List Part) → Step
  -- a backslash and a newline between pieces
  Vanishes : Step
  -- no piece
  Ends : Step
  Fails : (error : SyntaxError) → Step

-- whether a variable is split
abbrev pub splits : Mode → Bool
splits Bare = true
splits mode = false

abbrev pub variable : (split : Bool) → (first : ℕ) → (name : List ℕ) → Part
variable split first [] = if first == ascii.question_mark then Status else Var (first ∷ []) split
variable split first (b ∷ name) = Var (first ∷ b ∷ name) split

-- after `${`, if the brace bytes and what follows them are known
abbrev pub closed : (mode : Mode) → (at : ℕ) → (name rest : List ℕ) → Step
closed mode at name [] = Fails (OpenBrace at)
closed mode at [] (b ∷ rest) = Fails (BadVariable at)
closed mode at (first ∷ name) (b ∷ rest) = if b == ascii.close_brace then
    Goes mode (3 + length name) (variable (splits mode) first name ∷ []) else Fails (BadVariable at)

unfoldable pub braced : (mode : Mode) → (at : ℕ) → (text : List ℕ) → Step
braced mode at text =
    closed mode at (take (prefix_len is_brace_byte text) text) (drop (prefix_len is_brace_byte text) text)

abbrev pub named : (mode : Mode) → (size : ℕ) → (text : List ℕ) → Step
named mode size text = Goes mode size (Var (take size text) (splits mode) ∷ [])

-- a `$` at a place, by what follows it
unfoldable pub dollar : (mode : Mode) → (at : ℕ) → (text : List ℕ) → Step
dollar mode at [] = Goes mode 0 (dollar_itself (splits mode) ∷ [])
dollar mode at (b ∷ text) =
    if b == ascii.question_mark then Goes mode 1 (Status ∷ [])
    else (if b == ascii.open_brace then braced mode at text
    else (if begins_name b then named mode (prefix_len is_name_byte (b ∷ text)) (b ∷ text)
    else Goes mode 0 (dollar_itself (splits mode) ∷ [])))

-- after a backslash outside quotes
abbrev pub backslash : (at : ℕ) → List ℕ → Step
backslash at [] = Fails (LoneBackslash at)
backslash at (b ∷ text) = if b == ascii.newline then Vanishes else Goes Bare 1 (Kept b ∷ [])

unfoldable pub bare : (at b : ℕ) → (text : List ℕ) → Step
bare at b text =
    if is_separator b then Ends
    else (if b == ascii.backslash then backslash at text
    else (if b == ascii.quote then Goes (Single at) 0 (Mark ∷ [])
    else (if b == ascii.double_quote then Goes (Double at) 0 (Mark ∷ [])
    else (if b == ascii.dollar then dollar Bare at text
    else Goes Bare 0 (Plain b ∷ [])))))

-- after a backslash in double quotes
abbrev pub escape : (mode : Mode) → List ℕ → Step
escape mode [] = Goes mode 0 (Kept ascii.backslash ∷ [])
escape mode (b ∷ text) = if is_escapable b then Goes mode 1 (Kept b ∷ [])
    else (if b == ascii.newline then Goes mode 1 [] else Goes mode 0 (Kept ascii.backslash ∷ []))

unfoldable pub inside : (mode : Mode) → (at b : ℕ) → (text : List ℕ) → Step
inside mode at b text =
    if b == ascii.double_quote then Goes Bare 0 []
    else (if b == ascii.backslash then escape mode text
    else (if b == ascii.dollar then dollar mode at text
    else Goes mode 0 (Kept b ∷ [])))

unfoldable pub step : (mode : Mode) → (at b : ℕ) → (text : List ℕ) → Step
step Bare at b text = bare at b text
step (Single opening) at b text = if b == ascii.quote then Goes Bare 0 [] else Goes (Single opening) 0 (Kept b ∷ [])
step (Double opening) at b text = inside (Double opening) at b text

-- a row of pieces: where it stops and its parts
pub data Seen : Type 0 where
  Takes : (stop : ℕ) → (parts : List Part) → Seen
  Refuses : (error : SyntaxError) → Seen

abbrev pub in_front : List Part → Seen → Seen
in_front front (Takes stop parts) = Takes stop (front ++ parts)
in_front front (Refuses error) = Refuses error

abbrev pub mode_behind : Mode → Step → Mode
mode_behind now (Goes mode skip parts) = mode
mode_behind now other = now

abbrev pub skip_behind : Step → ℕ
skip_behind (Goes mode skip parts) = skip
skip_behind Vanishes = 1
skip_behind other = 0

-- a pair that vanishes after the last piece is not part of the row
abbrev pub stop_behind : (stop at : ℕ) → Step → ℕ
stop_behind stop at (Goes mode skip parts) = suc at + skip
stop_behind stop at other = stop

abbrev pub onto : Step → (stop : ℕ) → Seen → Seen
onto (Goes mode skip parts) stop more = in_front parts more
onto Vanishes stop more = more
onto Ends stop more = Takes stop []
onto (Fails error) stop more = Refuses error

abbrev pub at_end : Mode → (stop : ℕ) → Seen
at_end Bare stop = Takes stop []
at_end (Single opening) stop = Refuses (OpenQuote opening)
at_end (Double opening) stop = Refuses (OpenQuote opening)

-- the pieces that follow in a text; the pieces before it end at `stop`, and `skip` bytes are skipped first
abbrev pub row : (mode : Mode) → (stop skip at : ℕ) → (text : List ℕ) → Seen
row mode stop skip at [] = at_end mode stop
row mode stop (suc skip) at (b ∷ text) = row mode stop skip (suc at) text
row mode stop zero at (b ∷ text) =
    onto (step mode at b text) stop
    (row (mode_behind mode (step mode at b text)) (stop_behind stop at (step mode at b text))
    (skip_behind (step mode at b text)) (suc at) text)

-- what is at the start of a text
pub data Front : Type 0 where
  -- nothing with a meaning: the first byte, and this many after it
  Gap : (skip : ℕ) → Front
  Sees : (token : Token) → (skip : ℕ) → Front
  Stops : (error : SyntaxError) → Front

abbrev pub word_at : (at : ℕ) → Seen → Front
word_at at (Refuses error) = Stops error
word_at at (Takes stop parts) = Sees (word at stop parts) (stop - suc at)

unfoldable pub word_front : (at b : ℕ) → (text : List ℕ) → Front
word_front at b text = word_at at (row Bare at 0 at (b ∷ text))

-- a blank, or a token that separates words
abbrev pub separator_front : (at : ℕ) → (b : ℕ) → (text : List ℕ) → Front
separator_front at b text =
    if is_space b then Gap 0
    else (if b == ascii.semicolon then Sees (sign kinds.Semi at (suc at)) 0
    else (if b == ascii.ampersand then
    (if begins (λ c. c == ascii.ampersand) text then Sees (sign kinds.AndAnd at (suc (suc at))) 1
    else Stops (SingleAmp at))
    else (if b == ascii.bar then
    (if begins (λ c. c == ascii.bar) text then Sees (sign kinds.OrOr at (suc (suc at))) 1
    else Stops (SinglePipe at))
    else Sees (sign kinds.Newline at (suc at)) 0)))

unfoldable pub front : (at : ℕ) → (b : ℕ) → (text : List ℕ) → Front
front at b text =
    if is_separator b then separator_front at b text
    else (if b == ascii.hash then Gap (prefix_len (λ c. not (c == ascii.newline)) text)
    else (if b == ascii.backslash && begins (λ c. c == ascii.newline) text then Gap 1
    else word_front at b text))

abbrev pub skip_of : Front → ℕ
skip_of (Gap skip) = skip
skip_of (Sees token skip) = skip
skip_of (Stops error) = 0

-- the tokens, and how they end
pub record Lexed : Type 0 where
  pub tokens : List Token
  pub end : End

abbrev pub follow : Front → Lexed → Lexed
follow (Gap skip) more = more
follow (Sees token skip) more = record { tokens = token ∷ more.tokens; end = more.end }
follow (Stops error) more = record { tokens = []; end = Refused error }

abbrev pub lexed_from : (skip : ℕ) → (at : ℕ) → (text : List ℕ) → Lexed
lexed_from skip at [] = record { tokens = []; end = Whole }
lexed_from (suc skip) at (b ∷ text) = lexed_from skip (suc at) text
lexed_from zero at (b ∷ text) = follow (front at b text) (lexed_from (skip_of (front at b text)) (suc at) text)

-- the tokens of a text whose first byte is at a place
abbrev pub lexed : (at : ℕ) → (text : List ℕ) → Lexed
lexed at text = lexed_from 0 at text
