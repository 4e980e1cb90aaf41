-- Single quotes in a line of a device list, as the shell reads them. Ours; U-Boot's old shell (common/cli_hush.c) drops a
-- backslash in them, which is a byte here.
use Rattle.std.specs.Prelude.{ℕ, ◌==◌, not, Bool, true, false, List, [], ◌∷◌, filter, Option, Some, None, option_map, if◌then◌else◌}
use Rattle.text.specs.Words.{is_space, trimmed}
use Rattle.text.specs.Lines.{Text}

abbrev pub is_quote : ℕ → Bool
is_quote b = b == 39

-- a byte in front of the first piece
abbrev pub onto_first : ℕ → List Text → List Text
onto_first b [] = (b ∷ []) ∷ []
onto_first b (piece ∷ pieces) = (b ∷ piece) ∷ pieces

-- the pieces of a line between the blanks that are in no quotes
abbrev pub pieces : (quoted : Bool) → (line : Text) → List Text
pieces quoted [] = [] ∷ []
pieces true (b ∷ line) = onto_first b (pieces (not (is_quote b)) line)
pieces false (b ∷ line) = if is_space b then [] ∷ pieces false line else onto_first b (pieces (is_quote b) line)

abbrev pub has_byte : (piece : Text) → Bool
has_byte [] = false
has_byte (b ∷ piece) = true

-- The words of a line. Quotes stay in their words.
abbrev pub quoted_words : (line : Text) → List Text
quoted_words line = filter has_byte (pieces false (trimmed line))

abbrev pub unquoted_from : (quoted : Bool) → Text → Option Text
unquoted_from true [] = None
unquoted_from false [] = Some []
unquoted_from quoted (b ∷ rest) =
    if is_quote b then unquoted_from (not quoted) rest else option_map (λ more. b ∷ more) (unquoted_from quoted rest)

-- a value without its quotes, if each one is closed
abbrev pub unquoted : Text → Option Text
unquoted value = unquoted_from false value
