-- The truth of the words after `test` (U-Boot documentation, doc/usage, the command line). What no page says is ours.
use Rattle.std.specs.Prelude.{ℕ, zero, suc, ◌==◌, nat_lt, Bool, true, false, not, ◌&&◌, ◌||◌, List, [], ◌∷◌, length, Option, Some, None, option_map, codes, ℤ, pos, negsuc, int_lt, int_le, min, if◌then◌else◌}
use Rattle.std.specs.Str.{bytes_eq}
use Rattle.std.specs.List.{take_while}
use Rattle.std.specs.Cmp.Lexicographic.{slice_cmp}
use Rattle.std.specs.Ordering.{nat_cmp, int_eq, is_lt, is_gt}
use Rattle.text.specs.Bytes as ascii
pub use Rattle.text.specs.Lines.{Text}
use Rattle.text.specs.Numbers.{digit_of, value_in}

-- ---- numbers

-- the bytes at the start that are digits of the base
abbrev pub digits_in : ℕ → Text → Text
digits_in base = take_while (λ b. nat_lt (digit_of b) base)

-- the number that the digits at the start spell, or 0 if there is none
abbrev pub read_in : ℕ → Text → ℕ
read_in base word = value_in base (digits_in base word)

-- an x of either case, and a hexadecimal digit after it
abbrev pub begins_hexadecimal : Text → Bool
begins_hexadecimal (x ∷ d ∷ digits) = ((x == ascii.small_x) || (x == ascii.capital_x)) && nat_lt (digit_of d) 16
begins_hexadecimal _ = false

abbrev pub behind_first : Text → Text
behind_first [] = []
behind_first (b ∷ bytes) = bytes

-- what follows a leading 0: hexadecimal digits after an x, else octal ones
abbrev pub read_after_zero : Text → ℕ
read_after_zero word = if begins_hexadecimal word then read_in 16 (behind_first word) else read_in 8 word

-- a number without a sign
abbrev pub magnitude : Text → ℕ
magnitude [] = 0
magnitude (b ∷ bytes) = if b == ascii.digit_zero then read_after_zero bytes else read_in 10 (b ∷ bytes)

abbrev pub negated : ℕ → ℤ
negated zero = pos 0
negated (suc n) = negsuc n

-- what follows a minus sign
abbrev pub behind_minus : Text → Option Text
behind_minus [] = None
behind_minus (b ∷ bytes) = if b == ascii.minus then Some bytes else None

-- the number that a word spells, or the nearest one of 64 bits
abbrev pub number : Text → ℤ
number word =
    elim (behind_minus word) [
      | Some digits ↦ negated (min (magnitude digits) 9223372036854775808)
      | None ↦ pos (min (magnitude word) 9223372036854775807)
    ]

-- ---- comparisons

abbrev pub Comparison : Type 0
Comparison = Text → Text → Bool

-- texts are compared byte by byte
abbrev pub text_comparisons : List (Text × Comparison)
text_comparisons =
    (codes "=", λ a b. bytes_eq a b)
    ∷ (codes "!=", λ a b. not (bytes_eq a b))
    ∷ (codes "<", λ a b. is_lt (slice_cmp nat_cmp a b))
    ∷ (codes ">", λ a b. is_gt (slice_cmp nat_cmp a b))
    ∷ []

-- and numbers by what they spell
abbrev pub number_comparisons : List (Text × Comparison)
number_comparisons =
    (codes "-eq", λ a b. int_eq (number a) (number b))
    ∷ (codes "-ne", λ a b. not (int_eq (number a) (number b)))
    ∷ (codes "-lt", λ a b. int_lt (number a) (number b))
    ∷ (codes "-le", λ a b. int_le (number a) (number b))
    ∷ (codes "-gt", λ a b. int_lt (number b) (number a))
    ∷ (codes "-ge", λ a b. int_le (number b) (number a))
    ∷ []

-- the answer of the comparison that the operator names, if it is in the table
abbrev pub answer_in : List (Text × Comparison) → Text → Text → Text → Option Bool
answer_in [] operator left right = None
answer_in (c ∷ cs) operator left right = if bytes_eq operator c.0 then Some (c.1 left right)
    else answer_in cs operator left right

abbrev pub or_else : Option Bool → Option Bool → Option Bool
or_else None other = other
or_else (Some truth) other = Some truth

abbrev pub comparison : Text → Text → Text → Option Bool
comparison operator left right =
    or_else (answer_in text_comparisons operator left right) (answer_in number_comparisons operator left right)

-- ---- terms

-- a truth, and the words after its term
abbrev pub Term : Type 0
Term = Option (Bool × List Text)

-- a comparison of three words
abbrev pub compared : List Text → Term
compared (left ∷ operator ∷ right ∷ words) = option_map (λ truth. (truth, words)) (comparison operator left right)
compared _ = None

-- `-n` and a word that is not empty, or `-z` and an empty one
abbrev pub measured : List Text → Term
measured (test ∷ word ∷ words) =
    if bytes_eq test (codes "-n") then Some (not (length word == 0), words)
    else (if bytes_eq test (codes "-z") then Some (length word == 0, words) else None)
measured _ = None

abbrev pub opposite : Term → Term
opposite = option_map (λ t. (not t.0, t.1))

-- the first rule that fits: a comparison, the opposite of a term, a test of one word
abbrev pub term : List Text → Term
term [] = None
term (first ∷ words) =
    elim (compared (first ∷ words)) [
      | Some t ↦ Some t
      | None ↦ elim (bytes_eq first (codes "!")) [ true ↦ opposite (term words) | false ↦ measured (first ∷ words) ]
    ]

-- ---- the whole

-- both operators have the same rank
abbrev pub combined : Text → Bool → Bool → Option Bool
combined operator left right =
    if bytes_eq operator (codes "-a") then Some (left && right)
    else (if bytes_eq operator (codes "-o") then Some (left || right) else None)

-- Terms are combined from the left, at most n of them; words that are left over make the whole false.
abbrev pub chain : ℕ → Bool → List Text → Bool
chain n truth [] = truth
chain zero truth (operator ∷ words) = false
chain (suc n) truth (operator ∷ words) =
    elim (term words) [
      | None ↦ false
      | Some t ↦ elim (combined operator truth t.0) [ None ↦ false | Some both ↦ chain n both t.1 ]
    ]

abbrev pub verdict : List Text → Bool
verdict words = elim (term words) [ None ↦ false | Some t ↦ chain (length words) t.0 t.1 ]
