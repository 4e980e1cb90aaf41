-- Worked examples of the words that U-Boot's modern shell finds, computed. Each is what a sandbox of U-Boot 2025.01 finds.
use Rattle.std.proofs.Common.{◌≡◌, ℕ, true, false, List, [], ◌∷◌, map, refl}
use Rattle.std.specs.Prelude.{codes}
use Rattle.std.specs.Fmt.{digits}
use Rattle.hushlang.specs.Tree.{Word, Bytes, Mark, Var, Status}
use Rattle.hushlang.specs.Expansion.{Parameters, with_variable, atoms}
use Rattle.hushlang.specs.KnownFields.{nothing_set}
use Rattle.hushlang_modern.specs.ModernFields.{expanded, modern_fields}

abbrev Text : Type 0
Text = List ℕ

-- a value of `x`, and the words that a command has then
abbrev Row : Type 0
Row = Text × List Text

-- `x` alone is set
abbrev x_is : Text → Parameters
x_is value = with_variable nothing_set (codes "x") value

abbrev found : List Word → List Row → List (List Text)
found words rows = map (λ row. modern_fields (x_is row.0) words) rows

abbrev expected : List Row → List (List Text)
expected rows = map (λ row. row.1) rows

abbrev load : Text
load = codes "load"

-- ---- `load $x`

abbrev bare : List Row
bare =
    (codes "a b", load ∷ codes "a" ∷ codes "b" ∷ []) ∷ (codes " a  b ", load ∷ codes "a" ∷ codes "b" ∷ []) ∷ (codes "a\tb", load ∷ codes "a" ∷ codes "b" ∷ [])
    ∷ (codes "a\nb", load ∷ codes "a" ∷ codes "b" ∷ []) ∷ (codes "a;b", load ∷ codes "a;b" ∷ []) ∷ (codes "it's", load ∷ codes "it's" ∷ [])
    ∷ (codes "\"a b\"", load ∷ codes "\"a" ∷ codes "b\"" ∷ []) ∷ (codes "\\", load ∷ codes "\\" ∷ []) ∷ (codes "a\\b", load ∷ codes "a\\b" ∷ [])
    ∷ (codes "a\\\\b", load ∷ codes "a\\\\b" ∷ []) ∷ (codes "#a", load ∷ codes "#a" ∷ []) ∷ (codes "*", load ∷ codes "*" ∷ [])
    ∷ (codes "a*", load ∷ codes "a*" ∷ []) ∷ (codes "\\*", load ∷ codes "\\*" ∷ []) ∷ (codes "*\\b", load ∷ codes "*\\\\\\b" ∷ [])
    ∷ (codes "a \\", load ∷ codes "a" ∷ codes "\\" ∷ []) ∷ (codes "* \\", load ∷ codes "*" ∷ codes "\\" ∷ []) ∷ ([], load ∷ [])
    ∷ (codes " ", load ∷ []) ∷ (codes "$y", load ∷ codes "$y" ∷ []) ∷ (codes "[-", load ∷ codes "[-" ∷ []) ∷ []

abbrev bare_words : List Word
bare_words = (Bytes load ∷ []) ∷ (Var (codes "x") true ∷ []) ∷ []

bare_found : found bare_words bare ≡ expected bare
unfolding modern_fields expanded atoms digits
bare_found = refl

-- ---- `load "$x"`

abbrev in_quotes : List Row
in_quotes =
    (codes "a b", load ∷ codes "a b" ∷ []) ∷ ([], load ∷ [] ∷ []) ∷ (codes "*", load ∷ codes "*" ∷ [])
    ∷ (codes "a\\b", load ∷ codes "a\\b" ∷ []) ∷ (codes "\"", load ∷ codes "\"" ∷ []) ∷ (codes "-a", load ∷ codes "-a" ∷ [])
    ∷ (codes "a\nb", load ∷ codes "a\nb" ∷ []) ∷ []

abbrev in_quotes_words : List Word
in_quotes_words = (Bytes load ∷ []) ∷ (Mark ∷ Var (codes "x") false ∷ []) ∷ []

in_quotes_found : found in_quotes_words in_quotes ≡ expected in_quotes
unfolding modern_fields expanded atoms digits
in_quotes_found = refl

-- ---- `load a${x}b`

abbrev within : List Row
within =
    (codes "b c", load ∷ codes "ab" ∷ codes "cb" ∷ []) ∷ (codes " ", load ∷ codes "a" ∷ codes "b" ∷ []) ∷ (codes "  c  ", load ∷ codes "a" ∷ codes "c" ∷ codes "b" ∷ [])
    ∷ (codes "#", load ∷ codes "a#b" ∷ []) ∷ (codes "*", load ∷ codes "a*b" ∷ []) ∷ (codes "\\", load ∷ codes "a\\b" ∷ [])
    ∷ ([], load ∷ codes "ab" ∷ []) ∷ []

abbrev within_words : List Word
within_words = (Bytes load ∷ []) ∷ (Bytes (codes "a") ∷ Var (codes "x") true ∷ Bytes (codes "b") ∷ []) ∷ []

within_found : found within_words within ≡ expected within
unfolding modern_fields expanded atoms digits
within_found = refl

-- ---- `load "y-"$x`

abbrev behind_quotes : List Row
behind_quotes =
    (codes "a", load ∷ codes "y-a" ∷ []) ∷ (codes "*", load ∷ codes "y\\-*" ∷ []) ∷ (codes "a *", load ∷ codes "y-a" ∷ codes "*" ∷ [])
    ∷ (codes " *", load ∷ codes "y-" ∷ codes "*" ∷ []) ∷ (codes "?-", load ∷ codes "y\\-?-" ∷ []) ∷ ([], load ∷ codes "y-" ∷ [])
    ∷ (codes "\\", load ∷ codes "y-\\" ∷ []) ∷ (codes "*\\-", load ∷ codes "y\\-*\\\\\\-" ∷ []) ∷ []

abbrev behind_quotes_words : List Word
behind_quotes_words = (Bytes load ∷ []) ∷ (Bytes (codes "y\\-") ∷ Var (codes "x") true ∷ []) ∷ []

behind_quotes_found : found behind_quotes_words behind_quotes ≡ expected behind_quotes
unfolding modern_fields expanded atoms digits
behind_quotes_found = refl

-- ---- `load ""$x$n`

abbrev behind_nothing : List Row
behind_nothing =
    (codes "a", load ∷ codes "a" ∷ []) ∷ (codes " a", load ∷ [] ∷ codes "a" ∷ []) ∷ (codes "a ", load ∷ codes "a" ∷ [] ∷ [])
    ∷ (codes " a ", load ∷ [] ∷ codes "a" ∷ [] ∷ []) ∷ ([], load ∷ [] ∷ []) ∷ (codes " ", load ∷ [] ∷ [] ∷ []) ∷ []

abbrev behind_nothing_words : List Word
behind_nothing_words = (Bytes load ∷ []) ∷ (Mark ∷ Var (codes "x") true ∷ Var (codes "n") true ∷ []) ∷ []

behind_nothing_found : found behind_nothing_words behind_nothing ≡ expected behind_nothing
unfolding modern_fields expanded atoms digits
behind_nothing_found = refl

-- ---- `load $x"$x"$x c`

abbrev twice : List Row
twice =
    (codes "a", load ∷ codes "aaa" ∷ codes "c" ∷ []) ∷ (codes "a b", load ∷ codes "a" ∷ codes "ba ba" ∷ codes "b" ∷ codes "c" ∷ []) ∷ (codes " ", load ∷ [] ∷ codes " " ∷ codes "c" ∷ [])
    ∷ (codes "a ", load ∷ codes "a" ∷ codes "a a" ∷ codes "c" ∷ []) ∷ (codes " a", load ∷ codes "a a" ∷ codes "a" ∷ codes "c" ∷ []) ∷ (codes "*-", load ∷ codes "*-\\*\\-*-" ∷ codes "c" ∷ []) ∷ []

abbrev twice_words : List Word
twice_words = (Bytes load ∷ []) ∷ (Var (codes "x") true ∷ Mark ∷ Var (codes "x") false ∷ Var (codes "x") true ∷ []) ∷ (Bytes (codes "c") ∷ []) ∷ []

twice_found : found twice_words twice ≡ expected twice
unfolding modern_fields expanded atoms digits
twice_found = refl

-- ---- `load ""$x$x`: what is after a backslash or a blank at the end of a value, and no field of quotes that ended before

abbrev one_behind_another : List Row
one_behind_another =
    (codes " y ", load ∷ [] ∷ codes "y" ∷ codes "y" ∷ []) ∷ (codes "y ", load ∷ codes "y" ∷ codes "y" ∷ []) ∷ (codes "b*\\", load ∷ codes "b*\\\\b*\\\\" ∷ [])
    ∷ (codes "\\ b*", load ∷ codes "\\" ∷ codes "b*\\\\" ∷ codes "b*" ∷ []) ∷ []

abbrev one_behind_another_words : List Word
one_behind_another_words = (Bytes load ∷ []) ∷ (Mark ∷ Var (codes "x") true ∷ Var (codes "x") true ∷ []) ∷ []

one_behind_another_found : found one_behind_another_words one_behind_another ≡ expected one_behind_another
unfolding modern_fields expanded atoms digits
one_behind_another_found = refl

-- ---- `load $?"$?" *$x\-`

abbrev status : List Row
status =
    ([], load ∷ codes "00" ∷ codes "*\\-" ∷ []) ∷ (codes "a", load ∷ codes "00" ∷ codes "*a\\-" ∷ []) ∷ (codes "a b", load ∷ codes "00" ∷ codes "*a" ∷ codes "b-" ∷ [])
    ∷ (codes "\\", load ∷ codes "00" ∷ codes "*\\\\\\-" ∷ []) ∷ []

abbrev status_words : List Word
status_words = (Bytes load ∷ []) ∷ (Status ∷ Mark ∷ Status ∷ []) ∷ (Bytes (codes "*") ∷ Var (codes "x") true ∷ Bytes (codes "\\-") ∷ []) ∷ []

status_found : found status_words status ≡ expected status
unfolding modern_fields expanded atoms digits
status_found = refl
