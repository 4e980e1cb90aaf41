-- What the code's tokens, and the text that it reads, say.
use Rattle.std.specs.Prelude.{ℕ, List, map}
use Rattle.std.specs.declared.alloc.Global.{Global}
use Rattle.std.specs.declared.vec.Vec.{Vec}
use Rattle.hushlang.specs.TreesShown as view
use Rattle.hushlang_uboot.specs.GatheredShown.{gathered}
use Rattle.hushlang_old.specs.OldTokens as says
use Rattle.hushlang_old.specs.declared.old_tokens.FoundWord.{FoundWord}
use Rattle.hushlang_old.specs.declared.old_tokens.Token.{Token}
use Rattle.hushlang_old.specs.declared.old_tokens.Token.TheVariants as code
use Rattle.hushlang_old.specs.declared.old_tokens.Place.{Place}
use Rattle.hushlang_old.specs.declared.old_tokens.Place.TheVariants as places
use Rattle.hushlang_old.specs.declared.old_tokens.TextReading.{TextReading}

abbrev pub word : FoundWord → says.FoundWord
word w = record { pieces = map view.piece w.pieces.items; quoted = w.quoted; escaped = w.escaped; apart = w.apart }

abbrev pub token : Token → says.Token
token (code.Word w) = says.Word (word w)
token code.Ends = says.Ends
token (code.Joins op) = says.Joins op
token code.Breaks = says.Breaks

abbrev pub tokens : Vec Token Global → List says.Token
tokens found = map token found.items

-- the name of a variable is that of the reading
abbrev pub place : Place → (name : List ℕ) → says.Place
place places.Open name = says.Open
place places.Behind name = says.Behind
place (places.Single behind) name = says.Single behind
place places.Dollar name = says.Dollar
place places.Name name = says.Name name
place places.Brace name = says.Brace name
place places.Comment name = says.Comment
place (places.Joint op) name = says.Joint op
place places.Broken name = says.Broken
place places.Refused name = says.Refused

abbrev pub at_open : Place
at_open = places.Open

abbrev pub in_name : Place
in_name = places.Name

abbrev pub in_brace : Place
in_brace = places.Brace

abbrev pub reading : TextReading → says.Reading
reading r = record {
  tokens = map token r.tokens.items;
  word = gathered r.word;
  quoted = r.quoted;
  escaped = r.escaped;
  double = r.double;
  place = place r.place r.name.items;
}
