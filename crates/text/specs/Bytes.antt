-- The bytes of ASCII by their names. Each number that a definition compares with a byte is here, and only here.
use Rattle.std.specs.Prelude.{ℕ}

-- ---- bytes that are not printed

abbrev pub nul : ℕ
nul = 0

abbrev pub tab : ℕ
tab = 9

abbrev pub newline : ℕ
newline = 10

abbrev pub carriage_return : ℕ
carriage_return = 13

abbrev pub space : ℕ
space = 32

-- ---- signs, in the order of their codes

-- `!`, the first printed byte after the space
abbrev pub exclamation_mark : ℕ
exclamation_mark = 33

-- `"`
abbrev pub double_quote : ℕ
double_quote = 34

-- `#`
abbrev pub hash : ℕ
hash = 35

-- `$`
abbrev pub dollar : ℕ
dollar = 36

-- `&`
abbrev pub ampersand : ℕ
ampersand = 38

-- `'`
abbrev pub quote : ℕ
quote = 39

-- `-`
abbrev pub minus : ℕ
minus = 45

-- `.`
abbrev pub dot : ℕ
dot = 46

-- `:`
abbrev pub colon : ℕ
colon = 58

-- `;`
abbrev pub semicolon : ℕ
semicolon = 59

-- `=`
abbrev pub equals : ℕ
equals = 61

-- `?`
abbrev pub question_mark : ℕ
question_mark = 63

-- `\`
abbrev pub backslash : ℕ
backslash = 92

-- `_`
abbrev pub underscore : ℕ
underscore = 95

-- the backquote
abbrev pub backquote : ℕ
backquote = 96

-- `{`
abbrev pub open_brace : ℕ
open_brace = 123

-- `|`
abbrev pub bar : ℕ
bar = 124

-- `}`
abbrev pub close_brace : ℕ
close_brace = 125

-- `~`, the last byte that is printed
abbrev pub tilde : ℕ
tilde = 126

-- ---- digits and letters

abbrev pub digit_zero : ℕ
digit_zero = 48

abbrev pub digit_one : ℕ
digit_one = 49

abbrev pub digit_nine : ℕ
digit_nine = 57

abbrev pub capital_a : ℕ
capital_a = 65

abbrev pub capital_f : ℕ
capital_f = 70

abbrev pub capital_x : ℕ
capital_x = 88

abbrev pub capital_z : ℕ
capital_z = 90

abbrev pub small_a : ℕ
small_a = 97

abbrev pub small_f : ℕ
small_f = 102

abbrev pub small_x : ℕ
small_x = 120

abbrev pub small_z : ℕ
small_z = 122
