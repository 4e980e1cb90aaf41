-- U-Boot's boot counter with the counter in the environment (CONFIG_BOOTCOUNT_LIMIT and CONFIG_BOOTCOUNT_ENV), and the line
-- `count COUNTER limit LIMIT else VARIABLE` of a device list, which says that a board has it. The line is ours; U-Boot's names
-- are bootcount, bootlimit and altbootcmd.
use Rattle.std.specs.Prelude.{ℕ, ◌+◌, ◌%◌, ◌^◌, ◌==◌, nat_lt, ◌&&◌, not, Bool, false, List, [], ◌∷◌, Option, Some, None, unwrap_or, decimal, codes, if◌then◌else◌}
use Rattle.std.specs.Str.{bytes_eq}
use Rattle.text.specs.Lines.{Text}
use Rattle.envimage.specs.Data.{Pair}
use Rattle.envtools.specs.Changes.{with_change}
use Rattle.envtools.specs.Environment.{value_of}
use Rattle.commands.specs.Hexadecimal.{in_word}
use Rattle.commands.specs.UBootExit.{leading_number}

-- the names of the counter, of its limit, and of the variable whose text is run beyond the limit
pub record Counter : Type 0 where
  pub counter : Text
  pub limit : Text
  pub alternative : Text

-- ---- the words of a line

abbrev pub counter_of : (counter limit alternative : Text) → Counter
counter_of counter limit alternative = record { counter = counter; limit = limit; alternative = alternative }

-- the three names, if these are the six words of such a line
abbrev pub count_words : List Text → Option Counter
count_words (a ∷ counter ∷ b ∷ limit ∷ c ∷ alternative ∷ []) =
    if bytes_eq a (codes "count") && bytes_eq b (codes "limit") && bytes_eq c (codes "else")
    then Some (counter_of counter limit alternative) else None
count_words _ = None

-- ---- numbers (`env_get_ulong` with base 10; lib/strto.c, `simple_strtoul`)

-- the number at the start of a value: hexadecimal after `0x`, else decimal, also after a leading 0; in words of 64 bits
abbrev pub number_of : Text → ℕ
number_of value = in_word (leading_number value)

-- the number of a variable, and 0 if it is not set
abbrev pub number_in : List Pair → (name : Text) → ℕ
number_in environment name = elim (value_of environment name) [ None ↦ 0 | Some value ↦ number_of value ]

-- ---- the counter (drivers/bootcount/bootcount_env.c and include/bootcount.h)

-- whether an update is tried; the number is cut to an `int`, which has 32 bits
abbrev pub is_upgrade : List Pair → Bool
is_upgrade environment = not (number_in environment (codes "upgrade_available") % 2 ^ 32 == 0)

-- `bootcount_load`
abbrev pub count_in : Counter → List Pair → ℕ
count_in counter environment = if is_upgrade environment then number_in environment counter.counter else 0

-- `bootcount_inc`: so the counter is 1 if no update is tried
abbrev pub raised : Counter → List Pair → List Pair
raised counter environment = with_change environment (counter.counter, decimal (in_word (count_in counter environment + 1)))

-- `bootcount_error`: a limit of 0 is never passed
abbrev pub is_passed : Counter → List Pair → Bool
is_passed counter environment =
    not (number_in environment counter.limit == 0) && nat_lt (number_in environment counter.limit) (count_in counter environment)

-- ---- the start of a rehearsal (common/autoboot.c, `bootdelay_process`)

-- U-Boot raises the counter before it takes the text. It runs preboot before that; here the texts of the lines `before` are
-- run in the rehearsal, so after the counter was raised (ours).
abbrev pub raised_in : Option Counter → List Pair → List Pair
raised_in None environment = environment
raised_in (Some counter) environment = raised counter environment

-- whether U-Boot saves the environment with the raised counter (`bootcount_store`); by the environment before that
abbrev pub saves_in : Option Counter → List Pair → Bool
saves_in None environment = false
saves_in (Some counter) environment = is_upgrade environment

-- the text of a variable, and the empty text if it is not set: U-Boot runs nothing then
abbrev pub text_in : List Pair → (name : Text) → Text
text_in environment name = unwrap_or (value_of environment name) []

-- Once the limit is passed, the text is that of the alternative, whatever is asked for. The environment has the raised counter.
abbrev pub asked_in : Option Counter → List Pair → (text : Option Text) → Option Text
asked_in None environment text = text
asked_in (Some counter) environment text =
    if is_passed counter environment then Some (text_in environment counter.alternative) else text
