-- The lines of a text.
use Rattle.std.specs.Prelude.{ℕ, ◌+◌, ◌==◌, Bool, List, [], length, if◌then◌else◌}
use Rattle.std.specs.List.{slice_split, enumerate_from}
use Rattle.std.specs.Borrow.{Bor}
use Rattle.text.specs.Bytes as ascii
use Rattle.text.specs.declared.lines.Lines.{Lines}

-- bytes that are read as text
abbrev pub Text : Type 0
Text = List ℕ

abbrev pub is_newline : ℕ → Bool
is_newline b = b == ascii.newline

-- the lines of a text, with their numbers from 1 on
abbrev pub numbered_lines : List ℕ → List (ℕ × List ℕ)
numbered_lines text = enumerate_from 1 (slice_split is_newline text)

-- the lines that an iterator still has to give
abbrev pub lines_left : Lines → List (ℕ × List ℕ)
lines_left s = if s.is_done then [] else enumerate_from s.number (slice_split is_newline s.rest.now)

-- a line, seen through its reference
abbrev pub line_at : ℕ × Bor (List ℕ) → ℕ × List ℕ
line_at item = (item.0, item.1.now)

-- an upper bound of the number of lines left
abbrev pub steps_left : Lines → ℕ
steps_left s = if s.is_done then 0 else length s.rest.now + 1
