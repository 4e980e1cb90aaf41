-- The words of a line, and what is around them.
use Rattle.std.specs.Prelude.{◌≡◌, ℕ, ◌<◌, ◌==◌, ◌||◌, not, Bool, List, [], ◌∷◌, length, filter, if◌then◌else◌}
use Rattle.std.specs.List.{slice_split, list_any, join_with_byte}
use Rattle.text.specs.Bytes as ascii

-- the byte that ends a text
abbrev pub is_nul : ℕ → Bool
is_nul b = b == ascii.nul

abbrev pub has_nul : List ℕ → Bool
has_nul = list_any is_nul

-- the sign between a name and its value
abbrev pub is_equals : ℕ → Bool
is_equals b = b == ascii.equals

-- a space or a tab
abbrev pub is_space : ℕ → Bool
is_space b = (b == ascii.space) || (b == ascii.tab)

-- a space, a tab or a carriage return
abbrev pub is_blank : ℕ → Bool
is_blank b = is_space b || (b == ascii.carriage_return)

-- a text without the bytes at its start that pass a test
abbrev pub cut_front : (ℕ → Bool) → List ℕ → List ℕ
cut_front p [] = []
cut_front p (b ∷ bytes) = if p b then cut_front p bytes else b ∷ bytes

-- a byte put before a text; it is dropped if it passes and the text is empty
abbrev pub onto_line : (ℕ → Bool) → ℕ → List ℕ → List ℕ
onto_line p b [] = if p b then [] else b ∷ []
onto_line p b (c ∷ bytes) = b ∷ c ∷ bytes

-- a text without the bytes at its end that pass a test
abbrev pub cut_behind : (ℕ → Bool) → List ℕ → List ℕ
cut_behind p [] = []
cut_behind p (b ∷ bytes) = onto_line p b (cut_behind p bytes)

-- a line without the blanks around it
abbrev pub trimmed : List ℕ → List ℕ
trimmed line = cut_behind is_blank (cut_front is_blank line)

-- the words of a line, which blanks separate
abbrev pub words_of : List ℕ → List (List ℕ)
words_of line = filter (λ word. not (length word == 0)) (slice_split is_blank line)

-- the words, joined by single spaces
abbrev pub joined_words : List (List ℕ) → List ℕ
joined_words words = join_with_byte ascii.space words

-- a closure answers as a test does
abbrev pub Tests : (ℕ → Bool → Type 0) → (ℕ → Bool) → Type 0
Tests answers p = (b : ℕ) (truth : Bool) → b < 256 → answers b truth → truth ≡ p b
