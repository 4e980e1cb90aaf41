-- The lines of a device list that say how a board starts: `given NAME=VALUE`, `before NAME` and
-- `count COUNTER limit LIMIT else VARIABLE`. Ours; U-Boot's C code sets variables with env_set, runs the text of preboot
-- before that of bootcmd (common/main.c), and has a boot counter (Counter.antt).
use Rattle.std.specs.Prelude.{ℕ, ◌+◌, ◌==◌, nat_le, ◌||◌, ◌&&◌, not, Bool, true, false, [], ◌∷◌, ◌++◌, length, take, drop, Option, Some, None, option_map, codes, if◌then◌else◌}
use Rattle.std.specs.Str.{bytes_eq}
use Rattle.std.specs.List.{list_any, list_all, flat_map, position}
use Rattle.text.specs.Bytes as ascii
use Rattle.text.specs.Lines.{Text, numbered_lines}
use Rattle.text.specs.Words.{has_nul, is_equals, is_space, cut_front, trimmed, words_of}
use Rattle.device_list.specs.Quotes.{is_quote}
use Rattle.device_list.specs.Settings.{is_variable}
use Rattle.board_start.specs.Counter.{Counter, count_words}

-- what a line says of the start: that a variable is given, or that the text of one runs first, or that the board has a boot
-- counter; or it would, but is faulty; or it is about something else
pub data Said : Type 0 where
  Given : (name value : Text) → Said
  Before : (name : Text) → Said
  Counts : Counter → Said
  Faulty : Said
  Other : Said

-- ---- words

-- a text cut at its first space or tab: the word, and what is after the blanks
abbrev pub cut_word : Text → Text × Text
cut_word line =
    elim (position is_space line) [ None ↦ (line, []) | Some at ↦ (take at line, cut_front is_space (drop (at + 1) line)) ]

abbrev pub ends_value : (quoted : Bool) → ℕ → Bool
ends_value quoted b = not quoted && is_space b

-- A value without its quotes. It ends the line, so it has no blank outside quotes, and each quote is closed.
abbrev pub value_from : (quoted : Bool) → Text → Option Text
value_from true [] = None
value_from false [] = Some []
value_from quoted (b ∷ rest) =
    if is_quote b then value_from (not quoted) rest
    else (if ends_value quoted b then None else option_map (λ more. b ∷ more) (value_from quoted rest))

-- ---- a line `given NAME=VALUE`

-- a name as a line of calls has it, without quotes
abbrev pub is_given_name : Text → Bool
is_given_name name = is_variable name && not (list_any is_quote name)

abbrev pub pair_said : (name : Text) → (value : Option Text) → Said
pair_said name None = Faulty
pair_said name (Some value) = if is_given_name name then Given name value else Faulty

abbrev pub pair_of : (rest : Text) → Said
pair_of rest =
    elim (position is_equals rest) [
      | None ↦ Other
      | Some at ↦ pair_said (take at rest) (value_from false (drop (at + 1) rest))
    ]

-- the words after `given`; without a setting it is the name of a command
abbrev pub given_said : (line rest : Text) → Said
given_said line rest =
    if not (list_any is_equals (cut_word rest).0) then Other else (if has_nul line then Faulty else pair_of rest)

-- ---- a line `before NAME`

abbrev pub is_between : ℕ → ℕ → ℕ → Bool
is_between low high b = nat_le low b && nat_le b high

-- a letter, a digit, `_`, `-` or `.`
abbrev pub is_plain_byte : ℕ → Bool
is_plain_byte b = is_between ascii.small_a ascii.small_z b || is_between ascii.capital_a ascii.capital_z b
    || is_between ascii.digit_zero ascii.digit_nine b || b == ascii.underscore || b == ascii.minus || b == 46

-- a name that `run` takes as it is, in each shell
abbrev pub is_plain_name : Text → Bool
is_plain_name name = is_variable name && list_all is_plain_byte name

abbrev pub ends_lone : ℕ → Bool
ends_lone b = is_space b || is_equals b

-- the words after `before`: without one, or with more, or with a setting, it is the name of a command
abbrev pub before_said : (rest : Text) → Said
before_said rest =
    if length rest == 0 || list_any ends_lone rest then Other
    else (if is_plain_name rest then Before rest else Faulty)

-- ---- a line `count COUNTER limit LIMIT else VARIABLE`

abbrev pub are_plain_names : Counter → Bool
are_plain_names counter = is_plain_name counter.counter && is_plain_name counter.limit && is_plain_name counter.alternative

-- what the words of a line say; with other words than those six, `count` is the name of a command
abbrev pub count_said : (names : Option Counter) → Said
count_said None = Other
count_said (Some names) = if are_plain_names names then Counts names else Faulty

-- ---- a line

abbrev pub words_said : (line : Text) → (words : Text × Text) → Said
words_said line words =
    if bytes_eq words.0 (codes "given") then given_said line words.1
    else (if bytes_eq words.0 (codes "before") then before_said words.1 else count_said (count_words (words_of line)))

-- what a line says of the start
abbrev pub said : (line : Text) → Said
said line = words_said line (cut_word (trimmed line))

-- ---- the other lines of a list

-- a line that every list refuses as a bad line
abbrev pub bad_line : Text
bad_line = codes "given given"

-- what is left of a line for the list of commands: nothing of a line of the start, and a bad line of a faulty one
abbrev pub left_of : Said → (line : Text) → Text
left_of (Given name value) line = []
left_of (Before name) line = []
left_of (Counts counter) line = []
left_of Faulty line = bad_line
left_of Other line = line

-- the newline in front of each line but the first
abbrev pub front : (number : ℕ) → Text
front number = if number == 1 then [] else ascii.newline ∷ []

abbrev pub line_left : (number : ℕ) → (line : Text) → Text
line_left number line = front number ++ left_of (said line) line

-- a list without its lines of the start; the other lines keep their numbers
abbrev pub without_start : (text : Text) → Text
without_start text = flat_map (λ l. line_left l.0 l.1) (numbered_lines text)
