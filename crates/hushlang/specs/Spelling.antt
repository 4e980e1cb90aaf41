-- How a text spells its tokens: a case for each rule. A text is given with the place of its first byte.
-- After the hush shell of the U-Boot documentation, doc/usage/cmdline. It is silent on some points, as on faults and
-- their places, on `$` before other bytes and on backslashes in double quotes; the rules for them are ours.
use Rattle.std.specs.Prelude.{◌≡◌, ◌≢◌, ℕ, suc, ◌+◌, Bool, true, false, not, ◌&&◌, ◌==◌, IsTrue, List, [], ◌∷◌, ◌++◌, length, map, ◌⊎◌}
use Rattle.std.specs.List.{list_all}
use Rattle.text.specs.Bytes as ascii
use Rattle.text.specs.Words.{is_space}
use Rattle.hushlang.specs.ByteClasses.{is_separator, is_ordinary, begins_name, is_name_byte, is_brace_byte, is_escapable, begins}
use Rattle.hushlang.specs.Token.{Part, Plain, Kept, Mark, Var, Status, Token, sign, word, End, Whole, Refused}
use Rattle.hushlang.specs.declared.token.Kind.TheVariants as kinds
use Rattle.hushlang.specs.declared.token.SyntaxError.{SyntaxError}
use Rattle.hushlang.specs.declared.token.SyntaxError.TheVariants.{OpenQuote, LoneBackslash, OpenBrace, BadVariable, SingleAmp, SinglePipe}

-- a `$` that means itself, outside double quotes or inside them
abbrev pub dollar_itself : (split : Bool) → Part
dollar_itself true = Plain ascii.dollar
dollar_itself false = Kept ascii.dollar

-- `$` before anything other than a name, `?` or `{`
abbrev pub is_bare : ℕ → Bool
is_bare b = not (begins_name b) && not (b == ascii.question_mark) && not (b == ascii.open_brace)

-- the bytes spelled, with rest after them, are a `$` with what belongs to it
pub data IsDollar (split : Bool) : (spelled rest : List ℕ) → (part : Part) → Type 0 where
  -- `$name`, with all name bytes that follow
  name : {first : ℕ} {name rest : List ℕ} → IsTrue (begins_name first) → IsTrue (list_all is_name_byte name) →
      begins is_name_byte rest ≡ false → IsDollar split (ascii.dollar ∷ first ∷ name) rest (Var (first ∷ name) split)
  -- `$?`
  status : {rest : List ℕ} → IsDollar split (ascii.dollar ∷ ascii.question_mark ∷ []) rest Status
  -- `${name}`
  braced : {first : ℕ} (name : List ℕ) {rest : List ℕ} → IsTrue (list_all is_brace_byte (first ∷ name)) →
      first ∷ name ≢ ascii.question_mark ∷ [] →
      IsDollar split (ascii.dollar ∷ ascii.open_brace ∷ first ∷ name ++ ascii.close_brace ∷ []) rest
      (Var (first ∷ name) split)
  -- `${?}`
  braced_status : {rest : List ℕ} →
      IsDollar split (ascii.dollar ∷ ascii.open_brace ∷ ascii.question_mark ∷ ascii.close_brace ∷ []) rest Status
  before_other : {b : ℕ} {rest : List ℕ} → IsTrue (is_bare b) →
      IsDollar split (ascii.dollar ∷ []) (b ∷ rest) (dollar_itself split)
  at_end : IsDollar split (ascii.dollar ∷ []) [] (dollar_itself split)

-- the text starts with a `${` that is refused
pub data IsBadDollar : (at : ℕ) → (text : List ℕ) → (error : SyntaxError) → Type 0 where
  -- brace bytes up to the end
  open_brace : {at : ℕ} {name : List ℕ} → IsTrue (list_all is_brace_byte name) →
      IsBadDollar at (ascii.dollar ∷ ascii.open_brace ∷ name) (OpenBrace at)
  -- no brace byte, or a byte other than `}` after them
  no_name : {at b : ℕ} {rest : List ℕ} → is_brace_byte b ≡ false →
      IsBadDollar at (ascii.dollar ∷ ascii.open_brace ∷ b ∷ rest) (BadVariable at)
  no_brace : {at first b : ℕ} (name rest : List ℕ) → IsTrue (list_all is_brace_byte (first ∷ name)) →
      is_brace_byte b ≡ false → b ≢ ascii.close_brace →
      IsBadDollar at (ascii.dollar ∷ ascii.open_brace ∷ first ∷ name ++ b ∷ rest) (BadVariable at)

-- the text, which starts inside double quotes, has contents with these parts up to rest, which starts at stop
pub data Contents : (at : ℕ) → (text : List ℕ) → (parts : List Part) → (stop : ℕ) → (rest : List ℕ) → Type 0 where
  none : {at : ℕ} {rest : List ℕ} → Contents at rest [] at rest
  byte : {at b stop : ℕ} {text rest : List ℕ} {parts : List Part} → is_escapable b ≡ false →
      Contents (suc at) text parts stop rest → Contents at (b ∷ text) (Kept b ∷ parts) stop rest
  escaped : {at b stop : ℕ} {text rest : List ℕ} {parts : List Part} → IsTrue (is_escapable b) →
      Contents (suc (suc at)) text parts stop rest → Contents at (ascii.backslash ∷ b ∷ text) (Kept b ∷ parts) stop rest
  -- a backslash and a newline vanish
  joined : {at stop : ℕ} {text rest : List ℕ} {parts : List Part} → Contents (suc (suc at)) text parts stop rest →
      Contents at (ascii.backslash ∷ ascii.newline ∷ text) parts stop rest
  -- before anything else a backslash is itself
  backslash : {at b stop : ℕ} {text rest : List ℕ} {parts : List Part} → is_escapable b ≡ false → b ≢ ascii.newline →
      Contents (suc at) (b ∷ text) parts stop rest →
      Contents at (ascii.backslash ∷ b ∷ text) (Kept ascii.backslash ∷ parts) stop rest
  last_backslash : {at stop : ℕ} {rest : List ℕ} {parts : List Part} → Contents (suc at) [] parts stop rest →
      Contents at (ascii.backslash ∷ []) (Kept ascii.backslash ∷ parts) stop rest
  dollar : {at stop : ℕ} {spelled text rest : List ℕ} {part : Part} {parts : List Part} →
      IsDollar false spelled text part → Contents (at + length spelled) text parts stop rest →
      Contents at (spelled ++ text) (part ∷ parts) stop rest

-- the text starts with a row of pieces, which has these parts and goes up to rest
pub data Row : (at : ℕ) → (text : List ℕ) → (parts : List Part) → (stop : ℕ) → (rest : List ℕ) → Type 0 where
  none : {at : ℕ} {rest : List ℕ} → Row at rest [] at rest
  ordinary : {at b stop : ℕ} {text rest : List ℕ} {parts : List Part} → IsTrue (is_ordinary b) →
      Row (suc at) text parts stop rest → Row at (b ∷ text) (Plain b ∷ parts) stop rest
  escaped : {at b stop : ℕ} {text rest : List ℕ} {parts : List Part} → b ≢ ascii.newline →
      Row (suc (suc at)) text parts stop rest → Row at (ascii.backslash ∷ b ∷ text) (Kept b ∷ parts) stop rest
  single : {at stop : ℕ} (quoted : List ℕ) {text rest : List ℕ} {parts : List Part} →
      IsTrue (list_all (λ b. not (b == ascii.quote)) quoted) →
      Row (suc (suc (at + length quoted))) text parts stop rest →
      Row at (ascii.quote ∷ quoted ++ ascii.quote ∷ text) (Mark ∷ map Kept quoted ++ parts) stop rest
  double : {at close stop : ℕ} {text after rest : List ℕ} {quoted parts : List Part} →
      Contents (suc at) text quoted close (ascii.double_quote ∷ after) → Row (suc close) after parts stop rest →
      Row at (ascii.double_quote ∷ text) (Mark ∷ quoted ++ parts) stop rest
  dollar : {at stop : ℕ} {spelled text rest : List ℕ} {part : Part} {parts : List Part} →
      IsDollar true spelled text part → Row (at + length spelled) text parts stop rest →
      Row at (spelled ++ text) (part ∷ parts) stop rest
  -- a backslash and a newline vanish between two pieces
  joined : {at stop : ℕ} {text rest : List ℕ} {part : Part} {parts : List Part} →
      Row (suc (suc at)) text (part ∷ parts) stop rest →
      Row at (ascii.backslash ∷ ascii.newline ∷ text) (part ∷ parts) stop rest

-- no piece follows: a separator or the end, after backslashes and newlines that vanish
pub data EndsWord : (rest : List ℕ) → Type 0 where
  at_end : EndsWord []
  separator : {b : ℕ} {rest : List ℕ} → IsTrue (is_separator b) → EndsWord (b ∷ rest)
  joined : {rest : List ℕ} → EndsWord rest → EndsWord (ascii.backslash ∷ ascii.newline ∷ rest)

-- the text starts with a piece that is refused
pub data IsFaulty : (at : ℕ) → (text : List ℕ) → (error : SyntaxError) → Type 0 where
  single : {at : ℕ} {quoted : List ℕ} → IsTrue (list_all (λ b. not (b == ascii.quote)) quoted) →
      IsFaulty at (ascii.quote ∷ quoted) (OpenQuote at)
  double : {at stop : ℕ} {text : List ℕ} {parts : List Part} → Contents (suc at) text parts stop [] →
      IsFaulty at (ascii.double_quote ∷ text) (OpenQuote at)
  inside : {at stop : ℕ} {text rest : List ℕ} {parts : List Part} {error : SyntaxError} →
      Contents (suc at) text parts stop rest → IsBadDollar stop rest error →
      IsFaulty at (ascii.double_quote ∷ text) error
  backslash : {at : ℕ} → IsFaulty at (ascii.backslash ∷ []) (LoneBackslash at)
  dollar : {at : ℕ} {text : List ℕ} {error : SyntaxError} → IsBadDollar at text error → IsFaulty at text error
  joined : {at : ℕ} {text : List ℕ} {error : SyntaxError} → IsFaulty (suc (suc at)) text error →
      IsFaulty at (ascii.backslash ∷ ascii.newline ∷ text) error

-- a word may start here: there is no comment, and no backslash and newline that vanish
abbrev pub may_begin_word : List ℕ → Bool
may_begin_word [] = false
may_begin_word (b ∷ text) = not (b == ascii.hash) && not (b == ascii.backslash && begins (λ c. c == ascii.newline) text)

-- the text spells these tokens, and then is at its end or refused
pub data Spells : (at : ℕ) → (text : List ℕ) → (tokens : List Token) → (end : End) → Type 0 where
  whole : {at : ℕ} → Spells at [] [] Whole
  blank : {at b : ℕ} {text : List ℕ} {tokens : List Token} {end : End} → IsTrue (is_space b) →
      Spells (suc at) text tokens end → Spells at (b ∷ text) tokens end
  joined : {at : ℕ} {text : List ℕ} {tokens : List Token} {end : End} → Spells (suc (suc at)) text tokens end →
      Spells at (ascii.backslash ∷ ascii.newline ∷ text) tokens end
  -- a comment goes to the next newline or to the end
  comment : {at : ℕ} (note : List ℕ) {text : List ℕ} {tokens : List Token} {end : End} →
      IsTrue (list_all (λ b. not (b == ascii.newline)) note) → (text ≡ [])
      ⊎ IsTrue (begins (λ b. b == ascii.newline) text) → Spells (suc at + length note) text tokens end →
      Spells at (ascii.hash ∷ note ++ text) tokens end
  semi : {at : ℕ} {text : List ℕ} {tokens : List Token} {end : End} → Spells (suc at) text tokens end →
      Spells at (ascii.semicolon ∷ text) (sign kinds.Semi at (suc at) ∷ tokens) end
  newline_token : {at : ℕ} {text : List ℕ} {tokens : List Token} {end : End} → Spells (suc at) text tokens end →
      Spells at (ascii.newline ∷ text) (sign kinds.Newline at (suc at) ∷ tokens) end
  and_and : {at : ℕ} {text : List ℕ} {tokens : List Token} {end : End} → Spells (suc (suc at)) text tokens end →
      Spells at (ascii.ampersand ∷ ascii.ampersand ∷ text) (sign kinds.AndAnd at (suc (suc at)) ∷ tokens) end
  or_or : {at : ℕ} {text : List ℕ} {tokens : List Token} {end : End} → Spells (suc (suc at)) text tokens end →
      Spells at (ascii.bar ∷ ascii.bar ∷ text) (sign kinds.OrOr at (suc (suc at)) ∷ tokens) end
  -- a word is a longest row of pieces
  word_token : {at stop : ℕ} {text rest : List ℕ} {part : Part} {parts : List Part} {tokens : List Token} {end : End}
      → IsTrue (may_begin_word text) → Row at text (part ∷ parts) stop rest → EndsWord rest →
      Spells stop rest tokens end → Spells at text (word at stop (part ∷ parts) ∷ tokens) end
  single_amp : {at : ℕ} {text : List ℕ} → begins (λ b. b == ascii.ampersand) text ≡ false →
      Spells at (ascii.ampersand ∷ text) [] (Refused (SingleAmp at))
  single_pipe : {at : ℕ} {text : List ℕ} → begins (λ b. b == ascii.bar) text ≡ false →
      Spells at (ascii.bar ∷ text) [] (Refused (SinglePipe at))
  -- a word with a piece that is refused, the first from the left
  broken : {at stop : ℕ} {text rest : List ℕ} {parts : List Part} {error : SyntaxError} →
      IsTrue (may_begin_word text) → Row at text parts stop rest → IsFaulty stop rest error →
      Spells at text [] (Refused error)
