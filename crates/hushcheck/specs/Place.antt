-- Where a byte is in a text: its line and its column, as compilers report them; and how much of its line is shown. Ours.
use Rattle.std.specs.Prelude.{◌≡◌, ◌+◌, ◌-◌, ◌<◌, ◌≤◌, ℕ, true, List, length, take, drop, min, count_by, slice_index}
use Rattle.std.specs.List.{after_last, before_first}
use Rattle.text.specs.Lines.{is_newline}
use Rattle.hushcheck.specs.declared.place.Place.{Place}
use Rattle.hushcheck.specs.declared.place.Point.{Point}

-- the bytes of a byte's line that are before it: those after the last newline before it
abbrev pub line_front : (text : List ℕ) → (at : ℕ) → List ℕ
line_front text at = after_last is_newline (take at text)

-- The number of its line is the number of newlines before it, plus one. Its column is the number of bytes before it in
-- the line, plus one.
abbrev pub place_in : (text : List ℕ) → (at : ℕ) → Place
place_in text at = record {
  line = 1 + count_by is_newline (take at text);
  column = 1 + length (line_front text at);
}

-- ---- how much of a line is shown: at most 80 bytes, and all of a line that has no more

-- The byte and those after it, up to the next newline: as many as leave room for the bytes before it, but for no more
-- than 40 of these.
abbrev pub rest_shown : (text : List ℕ) → (at : ℕ) → List ℕ
rest_shown text at = before_first is_newline (take (80 - min (length (line_front text at)) 40) (drop at text))

-- the last bytes of its line before it, as many as there is still room for
abbrev pub front_shown : (text : List ℕ) → (at : ℕ) → List ℕ
front_shown text at = drop (length (line_front text at) - (80 - length (rest_shown text at))) (line_front text at)

-- ---- a text that is gone through

-- the number of the line of a place, and where this line starts: after a newline, or at the start of the text
pub record IsPoint (text : List ℕ) (point : Point) : Type 0 where
  pub within : point.at ≤ length text
  pub line : point.line ≡ 1 + count_by is_newline (take point.at text)
  pub start : point.start ≤ point.at
  pub none : (k : ℕ) → point.start ≤ k → k < point.at → is_newline (slice_index text k) ≡ true → ⊥
  pub newline : 0 < point.start → is_newline (slice_index text (point.start - 1)) ≡ true
