-- Numbers as U-Boot's commands read them (lib/strto.c, `hextoul`): hexadecimal, with or without `0x`, up to the first byte
-- that is no digit. U-Boot computes in its machine's words; here they are of 64 bits (ours).
use Rattle.std.specs.Prelude.{ℕ, ◌+◌, ◌*◌, ◌%◌, ◌^◌, ◌==◌, nat_lt, ◌&&◌, ◌||◌, [], ◌∷◌, if◌then◌else◌}
use Rattle.text.specs.Bytes as ascii
use Rattle.text.specs.Numbers.{digit_of}
use Rattle.commands.specs.Verdict.{Text}

-- a number in 64 bits
abbrev pub in_word : ℕ → ℕ
in_word n = n % 2 ^ 64

-- the number of the digits in front, after those of n
abbrev pub read_behind : ℕ → Text → ℕ
read_behind n [] = n
read_behind n (b ∷ bytes) =
    if nat_lt (digit_of b) 16 then read_behind (in_word (n * 16 + digit_of b)) bytes else n

-- what follows `0x`
abbrev pub behind_prefix : Text → Text
behind_prefix [] = []
behind_prefix (first ∷ []) = first ∷ []
behind_prefix (first ∷ x ∷ bytes) =
    if first == ascii.digit_zero && ((x == ascii.small_x) || (x == ascii.capital_x)) then bytes else first ∷ x ∷ bytes

abbrev pub hexadecimal : Text → ℕ
hexadecimal word = read_behind 0 (behind_prefix word)
