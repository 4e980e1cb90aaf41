-- Numbers that may be written in hexadecimal digits. It is ours; mkenvimage reads octal ones too (U-Boot,
-- tools/mkenvimage.c, `xstrtol`).
use Rattle.std.specs.Prelude.{ℕ, ◌==◌, ◌^◌, ◌||◌, not, nat_eq, nat_lt, Bool, List, length, drop, Option, Some, None, codes, option_and_then, if◌then◌else◌}
use Rattle.std.specs.List.{list_all, starts_with}
use Rattle.text.specs.Numbers.{digit_of, value_in}

-- each is a digit of this base
abbrev pub are_digits_in : (base : ℕ) → List ℕ → Bool
are_digits_in base bytes = list_all (λ b. nat_lt (digit_of b) base) bytes

-- the number that digits spell, if it is below 2^32
abbrev pub value_of : (base : ℕ) → List ℕ → Option ℕ
value_of base digits = if nat_lt (value_in base digits) (2 ^ 32) then Some (value_in base digits) else None

-- the number that a text spells, in one digit or more
abbrev pub number_in : (base : ℕ) → List ℕ → Option ℕ
number_in base text =
    if (length text == 0) || not (are_digits_in base text) then None else value_of base text

-- hexadecimal digits are after `0x`
abbrev pub any_number : List ℕ → Option ℕ
any_number text =
    if starts_with nat_eq text (codes "0x") then number_in 16 (drop 2 text) else number_in 10 text

abbrev pub byte_of : List ℕ → Option ℕ
byte_of text = option_and_then (λ n. if nat_lt n 256 then Some n else None) (any_number text)
