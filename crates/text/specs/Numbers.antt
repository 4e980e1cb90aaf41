-- Digits, and the numbers that they spell.
use Rattle.std.specs.Prelude.{ℕ, ◌+◌, ◌-◌, ◌*◌, ◌&&◌, nat_le, Bool, List, fold, if◌then◌else◌}
use Rattle.std.specs.List.{list_all}
use Rattle.text.specs.Bytes as ascii

-- a decimal digit
abbrev pub is_digit : ℕ → Bool
is_digit b = nat_le ascii.digit_zero b && nat_le b ascii.digit_nine

abbrev pub are_digits : List ℕ → Bool
are_digits = list_all is_digit

-- the value of a digit of any base up to 16, in either case, or 16 if the byte is no digit
abbrev pub digit_of : ℕ → ℕ
digit_of b = if is_digit b then b - ascii.digit_zero
    else (if nat_le ascii.capital_a b && nat_le b ascii.capital_f then b - (ascii.capital_a - 10)
    else (if nat_le ascii.small_a b && nat_le b ascii.small_f then b - (ascii.small_a - 10) else 16))

-- the number that these bytes spell, each taken by its `digit_of`
abbrev pub value_in : ℕ → List ℕ → ℕ
value_in base digits = fold (λ number b. number * base + digit_of b) 0 digits
