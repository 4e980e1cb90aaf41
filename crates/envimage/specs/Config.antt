-- The places that a configuration names.
use Rattle.std.specs.Prelude.{ℕ, ◌^◌, ◌==◌, ◌&&◌, ◌||◌, not, nat_lt, Bool, false, List, [], ◌∷◌, length, filter, Option, None, Some, Result, Ok, Err, if◌then◌else◌}
use Rattle.std.specs.Str.Lossy.{utf8_valid_len}
use Rattle.std.specs.List.{list_all}
use Rattle.text.specs.Bytes as ascii
use Rattle.envimage.specs.Image.{is_size}
use Rattle.text.specs.Lines.{numbered_lines}
use Rattle.text.specs.Numbers.{digit_of, value_in}
use Rattle.text.specs.Words.{words_of}
use Rattle.envimage.specs.declared.config.ConfigError.{ConfigError}
use Rattle.envimage.specs.declared.config.ConfigError.TheVariants.{BadLine, NotText, BadNumber, NoPlace, SizeOutOfRange, UnequalSizes}

-- ---- numbers

-- one digit or more, all of the base, that spell at most 9,223,372,036,854,775,807
abbrev pub is_number_in : ℕ → List ℕ → Bool
is_number_in base digits =
    not (length digits == 0)
    && (list_all (λ b. nat_lt (digit_of b) base) digits && nat_lt (value_in base digits) (2 ^ 63))

abbrev pub number_in : ℕ → List ℕ → Option ℕ
number_in base digits = if is_number_in base digits then Some (value_in base digits) else None

-- what follows `0x` or `0X`
abbrev pub after_0x : List ℕ → Option (List ℕ)
after_0x (a ∷ b ∷ digits) = if (a == ascii.digit_zero) && ((b == ascii.small_x) || (b == ascii.capital_x)) then
    Some digits else None
after_0x _ = None

-- hexadecimal after `0x`, octal after a leading 0, else decimal
abbrev pub offset_of : List ℕ → Option ℕ
offset_of word = by (after_0x word) word
  where
    by : Option (List ℕ) → List ℕ → Option ℕ
    by (Some digits) word = number_in 16 digits
    by None [] = None
    by None (b ∷ bs) = if b == ascii.digit_zero then number_in 8 (b ∷ bs) else number_in 10 (b ∷ bs)

-- hexadecimal, with or without `0x`
abbrev pub size_of : List ℕ → Option ℕ
size_of word = by (after_0x word)
  where
    by : Option (List ℕ) → Option ℕ
    by (Some digits) = number_in 16 digits
    by None = number_in 16 word

-- ---- lines

-- a line that is not skipped: it has a word, and does not start with `#`
abbrev pub is_place_line : List ℕ → Bool
is_place_line line = by (words_of line)
  where
    by : List (List ℕ) → Bool
    by ((b ∷ bs) ∷ words) = not (b == ascii.hash)
    by _ = false

abbrev pub place_lines : List ℕ → List (ℕ × List ℕ)
place_lines text = filter (λ l. is_place_line l.1) (numbered_lines text)

-- a place: the device's name, the offset and the size in bytes
pub record PlaceShown : Type 0 where
  pub device : List ℕ
  pub offset : ℕ
  pub size : ℕ

abbrev pub is_text : List ℕ → Bool
is_text bytes = utf8_valid_len bytes == length bytes

abbrev pub place_with : ℕ → List ℕ → Option ℕ → Option ℕ → Result PlaceShown ConfigError
place_with number device (Some offset) (Some size) = Ok (record { device = device; offset = offset; size = size })
place_with number device _ _ = Err (BadNumber number)

-- the place that the words of a line name; words after the third are ignored
abbrev pub place_of : ℕ → List (List ℕ) → Result PlaceShown ConfigError
place_of number (device ∷ offset ∷ size ∷ more) =
    if is_text device then place_with number device (offset_of offset) (size_of size) else Err (NotText number)
place_of number _ = Err (BadLine number)

-- ---- the list

abbrev pub single : ℕ → Result PlaceShown ConfigError → Result (List PlaceShown) ConfigError
single number (Err e) = Err e
single number (Ok p) = if is_size 5 p.size then Ok (p ∷ []) else Err (SizeOutOfRange number)

abbrev pub pair : ℕ → ℕ → Result PlaceShown ConfigError → Result PlaceShown ConfigError →
    Result (List PlaceShown) ConfigError
pair first second (Err e) q = Err e
pair first second (Ok p) (Err e) = Err e
pair first second (Ok p) (Ok q) =
    if not (is_size 6 p.size) then Err (SizeOutOfRange first)
    else (if not (is_size 6 q.size) then Err (SizeOutOfRange second)
    else (if p.size == q.size then Ok (p ∷ q ∷ []) else Err UnequalSizes))

-- One place line names a single image, two name a redundant pair; further lines are not read.
abbrev pub places_among : List (ℕ × List ℕ) → Result (List PlaceShown) ConfigError
places_among [] = Err NoPlace
places_among (l ∷ []) = single l.0 (place_of l.0 (words_of l.1))
places_among (l ∷ m ∷ more) = pair l.0 m.0 (place_of l.0 (words_of l.1)) (place_of m.0 (words_of m.1))

-- the places that a configuration names, or its first refusal
abbrev pub places : List ℕ → Result (List PlaceShown) ConfigError
places text = places_among (place_lines text)
