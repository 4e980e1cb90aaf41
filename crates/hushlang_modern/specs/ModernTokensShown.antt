-- What the code's tokens, and the text that it reads, say.
use Rattle.std.specs.Prelude.{ℕ, List, [], ◌∷◌, map}
use Rattle.hushlang.specs.TreesShown as view
use Rattle.hushlang_uboot.specs.GatheredShown.{gathered}
use Rattle.hushlang_modern.specs.ModernTokens as says
use Rattle.hushlang_modern.specs.declared.modern_tokens.FoundWord.{FoundWord}
use Rattle.hushlang_modern.specs.declared.modern_tokens.FoundTokens.{FoundTokens}
use Rattle.hushlang_modern.specs.declared.modern_tokens.Token.{Token}
use Rattle.hushlang_modern.specs.declared.modern_tokens.Token.TheVariants as code
use Rattle.hushlang_modern.specs.declared.modern_tokens.Place.{Place}
use Rattle.hushlang_modern.specs.declared.modern_tokens.Place.TheVariants as places
use Rattle.hushlang_modern.specs.declared.modern_tokens.TextReading.{TextReading}

abbrev pub word : FoundWord → says.FoundWord
word w = record { pieces = map view.piece w.pieces.items; quoted = w.quoted; assigns = w.assigns }

abbrev pub token : Token → says.Token
token (code.Word w) = says.Word (word w)
token code.NewLine = says.NewLine
token code.Semicolon = says.Semicolon
token code.Ampersand = says.Ampersand
token code.Bar = says.Bar
token (code.Joins op) = says.Joins op
token (code.Opening quoted) = says.Opening quoted
token code.Closing = says.Closing

abbrev pub found : FoundTokens → says.FoundTokens
found f = record { tokens = map token f.tokens.items; stop = f.stop; quoted = f.quoted }

-- the name of a variable is that of the reading
abbrev pub place : Place → (name : List ℕ) → says.Place
place places.Open name = says.Open
place (places.Behind strict) name = says.Behind strict
place places.Single name = says.Single
place places.Opened name = says.Opened
place places.Dollar name = says.Dollar
place places.Name name = says.Name name
place places.Brace name = says.Brace name
place places.Operator name = says.Operator name
place places.Hash name = says.Hash
place places.Comment name = says.Comment
place (places.Joint op) name = says.Joint op
place (places.Stopped stop) name = says.Stopped stop

abbrev pub at_open : Place
at_open = places.Open

abbrev pub in_name : Place
in_name = places.Name

abbrev pub in_brace : Place
in_brace = places.Brace

abbrev pub behind_operator : Place
behind_operator = places.Operator

abbrev pub reading : TextReading → says.Reading
reading r = record {
  tokens = map token r.tokens.items;
  word = gathered r.word;
  quoted = r.quoted;
  doubled = r.doubled;
  assigns = r.assigns;
  double = r.double;
  groups = r.groups;
  place = place r.place r.name.items;
}

abbrev pub one : ℕ → List ℕ
one byte = byte ∷ []

-- the last word, as the text ends here
abbrev pub with_last : says.Reading → says.Reading
with_last r = says.word_ended (says.at_place says.Open (says.at_end r.place r))
