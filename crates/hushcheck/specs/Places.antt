-- What is reported of a place of a text. Ours.
use Rattle.std.specs.Prelude.{◌++◌, ℕ, codes, decimal}
use Rattle.text.specs.Escapes.{word_form}
use Rattle.hushcheck.specs.Names.{Text}
use Rattle.hushcheck.specs.Place.{front_shown, place_in, rest_shown}
use Rattle.hushcheck.specs.Shown.{mark_line, shown_line}
use Rattle.hushcheck.specs.declared.place.Place.{Place}

-- `NAME:LINE:COLUMN: `
abbrev pub place_form : Text → Place → Text
place_form name place =
    word_form name ++ codes ":" ++ decimal place.line ++ codes ":" ++ decimal place.column ++ codes ": "

-- the bytes before a byte, it and those after it, and a mark under it
abbrev pub marked : (front rest : Text) → Text
marked front rest = shown_line (front ++ rest) ++ codes "\n" ++ mark_line front ++ codes "\n"

-- a place of a text and what is reported of it, its line or 80 bytes of it, and a mark under the byte
abbrev pub lines_at : (name text : Text) → (at : ℕ) → (what : Text) → Text
lines_at name text at what =
    place_form name (place_in text at) ++ what ++ codes "\n" ++ marked (front_shown text at) (rest_shown text at)
