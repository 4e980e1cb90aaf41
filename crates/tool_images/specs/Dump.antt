-- A text that U-Boot's `printenv` wrote to its console, and that was copied from there. After the variables it writes an
-- empty line and `Environment size: N/M bytes` (U-Boot, cmd/nvedit.c, `do_env_print`), and the console puts a carriage return
-- in front of each newline. That such a text is reported by this last line alone is ours.
use Rattle.std.specs.Prelude.{ℕ, ◌==◌, ◌&&◌, ◌-◌, not, nat_eq, Bool, List, [], ◌∷◌, ◌++◌, length, take, drop, map, reverse, Option, Some, None, codes, slice_index, option_map, unwrap_or, if◌then◌else◌}
use Rattle.std.specs.List.{after_first, before_first, ends_with, flat_map, starts_with}
use Rattle.text.specs.Bytes as ascii
use Rattle.text.specs.Lines.{numbered_lines}
use Rattle.text.specs.Numbers.{are_digits}
use Rattle.text.specs.Words.{cut_behind}
use Rattle.envtools.specs.Scripting.{is_return}

-- ---- the line of the size

abbrev pub slash : ℕ
slash = slice_index (codes "/") 0

abbrev pub is_slash : ℕ → Bool
is_slash b = b == slash

-- one digit or more
abbrev pub is_number : List ℕ → Bool
is_number text = are_digits text && not (length text == 0)

-- how the line begins, and how it ends
abbrev pub opening : List ℕ
opening = codes "Environment size: "

abbrev pub closing : List ℕ
closing = codes " bytes"

-- `M bytes`
abbrev pub is_total : List ℕ → Bool
is_total text = ends_with nat_eq text closing && is_number (take (length text - length closing) text)

-- `N/M bytes`
abbrev pub are_sizes : List ℕ → Bool
are_sizes text = is_number (before_first is_slash text) && is_total (after_first is_slash text)

-- `Environment size: N/M bytes`
abbrev pub is_size_line : List ℕ → Bool
is_size_line line = starts_with nat_eq line opening && are_sizes (drop (length opening) line)

-- ---- the text without it

-- the lines of a text, without the carriage returns at their ends
abbrev pub shown_lines : List ℕ → List (List ℕ)
shown_lines text = map (λ line. cut_behind is_return line.1) (numbered_lines text)

-- lines from the last one back, without the empty ones in front
abbrev pub from_last : List (List ℕ) → List (List ℕ)
from_last [] = []
from_last ([] ∷ lines) = from_last lines
from_last ((b ∷ bs) ∷ lines) = (b ∷ bs) ∷ lines

-- lines from the last one back: those after the size and an empty line, if these come first
abbrev pub behind_size : List (List ℕ) → Option (List (List ℕ))
behind_size (size ∷ [] ∷ lines) = if is_size_line size then Some lines else None
behind_size _ = None

-- the lines in front of an empty line and the size, if these are the last ones; further empty lines may follow
abbrev pub dumped_lines : List (List ℕ) → Option (List (List ℕ))
dumped_lines lines = option_map reverse (behind_size (from_last (reverse lines)))

-- each line with its newline
abbrev pub text_of : List (List ℕ) → List ℕ
text_of lines = flat_map (λ line. line ++ ascii.newline ∷ []) lines

-- the text of the variables, if the text is such a one
abbrev pub dumped_text : List ℕ → Option (List ℕ)
dumped_text text = option_map text_of (dumped_lines (shown_lines text))

-- what is read of a text: of such a one the text of its variables; any other as it is
abbrev pub read_text : List ℕ → List ℕ
read_text text = unwrap_or (dumped_text text) text
