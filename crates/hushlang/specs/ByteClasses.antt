-- The classes of bytes that the language distinguishes.
-- After the hush shell of the U-Boot documentation, doc/usage/cmdline. Which bytes braces may hold is ours.
use Rattle.std.specs.Prelude.{ℕ, Bool, false, not, ◌&&◌, ◌||◌, ◌==◌, nat_le, List, [], ◌∷◌}
use Rattle.text.specs.Bytes as ascii
use Rattle.text.specs.Words.{is_space}

-- a byte that ends a word unless it is quoted: a blank, `;`, `&`, `|` or a newline
abbrev pub is_separator : ℕ → Bool
is_separator b = is_space b || b == ascii.semicolon || b == ascii.ampersand || b == ascii.bar || b == ascii.newline

-- a byte that means itself: not a separator, a quote, a backslash or `$`
abbrev pub is_ordinary : ℕ → Bool
is_ordinary b = not (is_separator b || b == ascii.quote || b == ascii.double_quote || b == ascii.backslash
    || b == ascii.dollar)

abbrev pub is_between : ℕ → ℕ → ℕ → Bool
is_between low high b = nat_le low b && nat_le b high

-- a letter or `_`
abbrev pub begins_name : ℕ → Bool
begins_name b = is_between ascii.small_a ascii.small_z b || is_between ascii.capital_a ascii.capital_z b
    || b == ascii.underscore

-- a letter, a digit or `_`
abbrev pub is_name_byte : ℕ → Bool
is_name_byte b = begins_name b || is_between ascii.digit_zero ascii.digit_nine b

-- a byte continues a name that has begun, or starts one
abbrev pub continues_name : (begun : Bool) → ℕ → Bool
continues_name begun b = begins_name b || (begun && is_name_byte b)

abbrev pub is_brace_exception : ℕ → Bool
is_brace_exception b =
    b == ascii.dollar || b == ascii.open_brace || b == ascii.close_brace || b == ascii.colon || b == ascii.equals
    || b == ascii.double_quote || b == ascii.quote || b == ascii.backslash || b == ascii.backquote

-- a printed byte other than `$ { } : = " ' \` and the backquote
abbrev pub is_brace_byte : ℕ → Bool
is_brace_byte b = is_between ascii.exclamation_mark ascii.tilde b && not (is_brace_exception b)

-- `$`, `"` and `\`, which a backslash keeps inside double quotes
abbrev pub is_escapable : ℕ → Bool
is_escapable b = b == ascii.dollar || b == ascii.double_quote || b == ascii.backslash

-- the first byte of a text, if there is one, passes a test
abbrev pub begins : (ℕ → Bool) → List ℕ → Bool
begins test [] = false
begins test (b ∷ text) = test b
