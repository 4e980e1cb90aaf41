-- What is in the bytes of a word, as a lexer passes it: its quotes, its backslashes and its variables. Ours; the
-- quotes, backslashes and variables are those of the hush shell of the U-Boot documentation, doc/usage/cmdline.
use Rattle.std.specs.Prelude.{◌==◌, ◌||◌, ℕ, Bool, true, false, List, if◌then◌else◌}
use Rattle.std.specs.List.{fold}
use Rattle.text.specs.Bytes as ascii
use Rattle.hushlang.specs.ByteClasses.{begins_name, is_between, is_escapable, is_name_byte}
use Rattle.hushcheck.specs.declared.sights.Quotes.{Quotes}
use Rattle.hushcheck.specs.declared.sights.Quotes.TheVariants.{Outside, Single, Double}
use Rattle.hushcheck.specs.declared.sights.Begun.{Begun}
use Rattle.hushcheck.specs.declared.sights.Begun.TheVariants.{Nothing, Backslash, Dollar, Brace, Name}
use Rattle.hushcheck.specs.declared.sights.Sight.{Sight}
use Rattle.hushcheck.specs.declared.sights.Sight.TheVariants.{Plain, Quote, Space, Loose, LooseUnderscore, Held, HeldUnderscore, SingleBackslash, DoubleBackslash, Apostrophe, Special, BracedStatus, OddName, Parenthesis, LineEnd}
use Rattle.hushcheck.specs.declared.sights.Seen.{Seen}
use Rattle.hushcheck.specs.declared.sights.Look.{Look}

-- ---- bytes that text/specs/Bytes does not name

abbrev pub parenthesis : ℕ
parenthesis = 40

abbrev pub asterisk : ℕ
asterisk = 42

abbrev pub at_sign : ℕ
at_sign = 64

-- a digit, `@`, `*`, `-` or `#`, which after a `$` is a variable of other shells
abbrev pub is_special : ℕ → Bool
is_special b = is_between ascii.digit_zero ascii.digit_nine b || b == at_sign || b == asterisk || b == ascii.minus
    || b == ascii.hash

-- ---- in which quotes a byte is, and what the bytes before it have begun

abbrev pub quotes_behind : Quotes → ℕ → Quotes
quotes_behind Outside b = if b == ascii.quote then Single else (if b == ascii.double_quote then Double else Outside)
quotes_behind Single b = if b == ascii.quote then Outside else Single
quotes_behind Double b = if b == ascii.double_quote then Outside else Double

-- a quote after a backslash opens and closes nothing
abbrev pub quotes_after : Quotes → Begun → ℕ → Quotes
quotes_after quotes Backslash b = quotes
quotes_after quotes begun b = quotes_behind quotes b

abbrev pub begins_outside : ℕ → Begun
begins_outside b = if b == ascii.backslash then Backslash else (if b == ascii.dollar then Dollar else Nothing)

-- single quotes keep backslashes and `$`
abbrev pub begins : Quotes → ℕ → Begun
begins Single b = Nothing
begins quotes b = begins_outside b

abbrev pub in_braces : ℕ → Begun
in_braces b = if b == ascii.close_brace then Nothing else Name

abbrev pub begun_after : Quotes → Begun → ℕ → Begun
begun_after quotes Nothing b = begins quotes b
begun_after quotes Backslash b = Nothing
begun_after quotes Dollar b = if b == ascii.open_brace then Brace else begins quotes b
begun_after quotes Brace b = in_braces b
begun_after quotes Name b = in_braces b

-- ---- what is seen at a byte

abbrev pub space_or_plain : ℕ → Sight
space_or_plain b = if b == ascii.space then Space else Plain

abbrev pub plain_sight : Quotes → ℕ → Sight
plain_sight Outside b = if b == ascii.quote || b == ascii.double_quote then Quote
    else (if b == parenthesis then Parenthesis else Plain)
plain_sight Single b = if b == ascii.backslash then SingleBackslash else space_or_plain b
plain_sight Double b = if b == ascii.quote then Apostrophe else space_or_plain b

-- the first byte of a name
abbrev pub name_sight : Quotes → ℕ → Sight
name_sight Double b = if b == ascii.underscore then HeldUnderscore else Held
name_sight quotes b = if b == ascii.underscore then LooseUnderscore else Loose

abbrev pub kept_sight : Quotes → ℕ → Sight
kept_sight Double b = if is_escapable b then DoubleBackslash else Plain
kept_sight quotes b = Plain

-- after a backslash
abbrev pub escaped_sight : Quotes → ℕ → Sight
escaped_sight quotes b = if b == ascii.newline then LineEnd else (if b == ascii.space then Space else kept_sight quotes b)

-- after a `$`
abbrev pub dollar_sight : Quotes → ℕ → Sight
dollar_sight quotes b = if begins_name b then name_sight quotes b
    else (if is_special b then Special else plain_sight quotes b)

-- after `${`
abbrev pub brace_sight : Quotes → ℕ → Sight
brace_sight quotes b = if b == ascii.question_mark then BracedStatus
    else (if begins_name b then name_sight quotes b else OddName)

-- in braces, after a first byte
abbrev pub inner_sight : ℕ → Sight
inner_sight b = if is_name_byte b || b == ascii.close_brace then Plain else OddName

abbrev pub sight_of : Quotes → Begun → ℕ → Sight
sight_of quotes Nothing b = plain_sight quotes b
sight_of quotes Backslash b = escaped_sight quotes b
sight_of quotes Dollar b = dollar_sight quotes b
sight_of quotes Brace b = brace_sight quotes b
sight_of quotes Name b = inner_sight b

abbrev pub with_sight : Sight → Seen → Seen
with_sight Plain seen = seen
with_sight Quote seen = record seen { quoted = true }
with_sight Space seen = record seen { space = true }
with_sight Loose seen = record seen { loose = true }
with_sight LooseUnderscore seen = record seen { loose = true; underscore = true }
with_sight Held seen = record seen { held = true }
with_sight HeldUnderscore seen = record seen { held = true; underscore = true }
with_sight SingleBackslash seen = record seen { single_backslash = true }
with_sight DoubleBackslash seen = record seen { double_backslash = true }
with_sight Apostrophe seen = record seen { apostrophe = true }
with_sight Special seen = record seen { special = true }
with_sight BracedStatus seen = record seen { braced_status = true }
with_sight OddName seen = record seen { odd_name = true }
with_sight Parenthesis seen = record seen { parenthesis = true }
with_sight LineEnd seen = record seen { line_end = true }

-- ---- a word, byte by byte

abbrev pub look_after : Look → ℕ → Look
look_after look b = record {
  quotes = quotes_after look.quotes look.begun b;
  begun = begun_after look.quotes look.begun b;
  seen = with_sight (sight_of look.quotes look.begun b) look.seen;
}

abbrev pub nothing_seen : Seen
nothing_seen = record {
  quoted = false;
  space = false;
  loose = false;
  held = false;
  underscore = false;
  single_backslash = false;
  double_backslash = false;
  apostrophe = false;
  special = false;
  braced_status = false;
  odd_name = false;
  parenthesis = false;
  line_end = false;
}

abbrev pub first_look : Look
first_look = record { quotes = Outside; begun = Nothing; seen = nothing_seen }

-- what is seen in a word
abbrev pub seen_in : List ℕ → Seen
seen_in text = (fold look_after first_look text).seen
