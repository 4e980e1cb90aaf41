-- What a lexer shows, and what a step of it gives.
use Rattle.hushlang.specs.ByteClasses.{is_separator}
use Rattle.hushlang.specs.Spelling.{Spells, may_begin_word}
use Rattle.std.specs.Prelude.{◌≡◌, true, false, ℕ, suc, ◌+◌, ◌-◌, ◌<◌, ◌≤◌, List, [], ◌∷◌, drop, take, length, Option, Some, None, Result, Ok, Err}
use Rattle.hushlang.specs.Token as spec
use Rattle.hushlang.specs.Token.{Part, End, Whole, Refused}
use Rattle.hushlang.specs.Tokenizing as reading
use Rattle.hushlang.specs.Tokenizing.{Seen, Takes, Refuses, row, Lexed, lexed, Gap, Sees, Stops}
use Rattle.hushlang.specs.declared.word_parts.Mode.TheVariants.{Bare}
use Rattle.hushlang.specs.declared.token.Token.{Token}
use Rattle.hushlang.specs.declared.token.SyntaxError.{SyntaxError}
use Rattle.hushlang.specs.declared.lexer.Front.{Front}
use Rattle.hushlang.specs.declared.lexer.Front.TheVariants as code

-- a text, and the place up to which it is cut
pub record Coming : Type 0 where
  pub source : List ℕ
  pub at : ℕ

abbrev pub tokens_to_come : Coming → Lexed
tokens_to_come c = lexed c.at (drop c.at c.source)

-- a kept refusal is the one to come
abbrev pub IsKnown : Option SyntaxError → Coming → Type 0
IsKnown None c = Unit {0}
IsKnown (Some error) c = tokens_to_come c ≡ record { tokens = []; end = Refused error }

abbrev pub parts_in : Seen → List Part
parts_in (Takes stop parts) = parts
parts_in (Refuses error) = []

-- the parts of a token's own text
unfoldable pub parts_of : Token → List Part
parts_of t = parts_in (row Bare 0 0 0 t.text.now)

-- its text, read alone, is not refused
abbrev pub IsCut : Token → Type 0
IsCut t = (stop : ℕ) × (row Bare 0 0 0 t.text.now ≡ Takes stop (parts_of t))

abbrev pub token_of : Token → spec.Token
token_of t = record { kind = t.kind; start = t.start; stop = t.stop; parts = parts_of t }

-- a token's text is its part of the source, and is not refused when read alone
abbrev pub IsPart : List ℕ → Token → Type 0
IsPart source t = (t.text.now ≡ take (t.stop - t.start) (drop t.start source)) × IsCut t

-- the first token of those to come, which is a part of the source, and the rest of them; if there is none, the end or
-- what refuses the text, and then nothing changes
abbrev pub Gives : Coming → Result (Option Token) SyntaxError → Coming → Type 0
Gives old (Ok (Some t)) new =
    (tokens_to_come old ≡ record {
      tokens = token_of t ∷ (tokens_to_come new).tokens;
      end = (tokens_to_come new).end;
    }) × IsPart old.source t × (old.at < new.at) × (new.at ≤ length old.source)
Gives old (Ok None) new = (tokens_to_come old ≡ record { tokens = []; end = Whole })
    × (tokens_to_come new ≡ tokens_to_come old)
Gives old (Err error) new = (tokens_to_come old ≡ record { tokens = []; end = Refused error })
    × (tokens_to_come new ≡ tokens_to_come old)

-- the text from a place on spells these tokens, and then is at its end or refused
abbrev pub StillSpells : Coming → List spec.Token → End → Type 0
StillSpells c tokens end = Spells c.at (drop c.at c.source) tokens end

-- the same by the rules: the token comes before whatever the rest spells. After the end, and after what refuses the
-- text, nothing else is to come
abbrev pub SpellsNext : Coming → Result (Option Token) SyntaxError → Coming → Type 0
SpellsNext old (Ok (Some t)) new = (tokens : List spec.Token) (end : End) → StillSpells new tokens end →
    StillSpells old (token_of t ∷ tokens) end
SpellsNext old (Ok None) new = StillSpells old [] Whole × StillSpells new [] Whole
SpellsNext old (Err error) new = StillSpells old [] (Refused error) × StillSpells new [] (Refused error)

-- what is at a place, as the program says it, with the place where it stops
abbrev pub front_shown : ℕ → reading.Front → Result Front SyntaxError
front_shown at (Gap skip) = Ok (code.Gap (at + suc skip))
front_shown at (Sees token skip) = Ok (code.Token token.kind (at + suc skip))
front_shown at (Stops error) = Err error

-- it goes on, but not beyond the text
abbrev pub GoesOn : ℕ → ℕ → Result Front SyntaxError → Type 0
GoesOn at size (Ok (code.Gap stop)) = (at < stop) × (stop ≤ size)
GoesOn at size (Ok (code.Token kind stop)) = (at < stop) × (stop ≤ size)
GoesOn at size (Err error) = Unit {0}

-- a word starts with this byte, if this text follows it
abbrev pub BeginsWord : ℕ → List ℕ → Type 0
BeginsWord b text = (is_separator b ≡ false) × (may_begin_word (b ∷ text) ≡ true)
