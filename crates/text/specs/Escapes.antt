-- How bytes are printed, so that spaces and bytes that do not print can be told apart. The form is ours.
use Rattle.std.specs.Prelude.{ℕ, ◌+◌, ◌-◌, ◌/◌, ◌%◌, nat_lt, nat_le, nat_eq, cond, ◌&&◌, List, [], ◌∷◌, ◌++◌, flat_map, codes}
use Rattle.text.specs.Bytes as ascii
use Rattle.text.specs.declared.escapes.Escaped.{Escaped}
use Rattle.text.specs.declared.escapes.Escaped.TheVariants.{Plain, Pair, Hidden}

abbrev pub hex_digit : ℕ → ℕ
hex_digit d = cond (nat_lt d 10) (ascii.digit_zero + d) (ascii.small_a - 10 + d)

-- a newline is `\n`, a backslash `\\`; other bytes from 32 to 126 are themselves, and any other is `\x` and two digits
abbrev pub escaped : ℕ → List ℕ
escaped b = cond (nat_eq b ascii.newline) (codes "\\n")
    (cond (nat_eq b ascii.backslash) (codes "\\\\")
    (cond (nat_le ascii.space b
    && nat_le b ascii.tilde) (b ∷ []) (codes "\\x" ++ hex_digit (b / 16) ∷ hex_digit (b % 16) ∷ [])))

abbrev pub text_form : List ℕ → List ℕ
text_form bytes = flat_map escaped bytes

-- in a word, a space is `\x20`
abbrev pub word_escaped : ℕ → List ℕ
word_escaped b = cond (nat_eq b ascii.space) (codes "\\x20") (escaped b)

-- and the empty word is `\e`
abbrev pub word_form : List ℕ → List ℕ
word_form [] = codes "\\e"
word_form (b ∷ bytes) = flat_map word_escaped (b ∷ bytes)

-- the bytes that a byte is printed as
abbrev pub bytes_of : Escaped → List ℕ
bytes_of (Plain bytes) = bytes
bytes_of (Pair bytes) = bytes
bytes_of (Hidden bytes) = bytes
