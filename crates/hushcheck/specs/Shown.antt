-- How lines are shown that may not print. Ours: each byte is shown as one byte, so that a mark can be put under it.
use Rattle.std.specs.Prelude.{◌==◌, ◌&&◌, ◌||◌, ◌++◌, ℕ, List, map, codes, nat_le, if◌then◌else◌}
use Rattle.text.specs.Bytes as ascii

-- a byte of a line: a tab, and a byte from 32 to 126, is itself, and any other is `?`
abbrev pub line_byte : ℕ → ℕ
line_byte byte = if (byte == ascii.tab) || (nat_le ascii.space byte && nat_le byte ascii.tilde) then byte
    else ascii.question_mark

abbrev pub shown_line : List ℕ → List ℕ
shown_line bytes = map line_byte bytes

-- what is written before a mark in place of a byte: a tab stays, so that the mark is under its byte
abbrev pub mark_byte : ℕ → ℕ
mark_byte byte = if byte == ascii.tab then ascii.tab else ascii.space

-- the line of a mark under the byte that follows these
abbrev pub mark_line : List ℕ → List ℕ
mark_line bytes = map mark_byte bytes ++ codes "^"
