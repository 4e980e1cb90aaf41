-- Worked examples of the words that U-Boot's old shell finds, computed. Each is what a sandbox of U-Boot 2023.01 finds.
use Rattle.std.proofs.Common.{◌≡◌, ℕ, true, false, List, [], ◌∷◌, map, refl}
use Rattle.std.specs.Prelude.{codes}
use Rattle.std.specs.Fmt.{digits}
use Rattle.hushlang.specs.Tree.{Word, Bytes, Mark, Var, Status}
use Rattle.hushlang.specs.Expansion.{Parameters, with_variable, atoms, joined, fields}
use Rattle.hushlang.specs.KnownFields.{nothing_set}
use Rattle.hushlang_old.specs.Defaults.{variable_of, behind_variable}
use Rattle.hushlang_old.specs.OldFields.{inserted, word_text, command_text, read, reread, old_fields, old_turns}

abbrev Text : Type 0
Text = List ℕ

-- a value of `x`, and the words that a command has then
abbrev Row : Type 0
Row = Text × List Text

-- `x` alone is set
abbrev x_is : Text → Parameters
x_is value = with_variable nothing_set (codes "x") value

abbrev found : List Word → List Row → List (List Text)
found words rows = map (λ row. old_fields (x_is row.0) words) rows

abbrev turns : List Word → List Row → List (List Text)
turns words rows = map (λ row. old_turns (x_is row.0) words) rows

abbrev expected : List Row → List (List Text)
expected rows = map (λ row. row.1) rows

abbrev load : Text
load = codes "load"

-- ---- `load $x`: the value is cut, and its quotes, backslashes and `#` act

abbrev bare : List Row
bare =
    (codes "a b", load ∷ codes "a" ∷ codes "b" ∷ []) ∷ (codes " a  b ", load ∷ codes "a" ∷ codes "b" ∷ [])
    ∷ ((97 ∷ 9 ∷ 98 ∷ []), load ∷ codes "a" ∷ codes "b" ∷ [])
    ∷ (codes "a\nb", load ∷ codes "a" ∷ codes "b" ∷ []) ∷ (codes "a;b", load ∷ codes "a;b" ∷ [])
    ∷ (codes "it's", []) ∷ (codes "a' b'c", load ∷ codes "a bc" ∷ []) ∷ (codes "''", load ∷ [] ∷ [])
    ∷ (codes "\"", load ∷ codes "\n" ∷ []) ∷ (codes "\"a b\"c", load ∷ codes "a bc" ∷ [])
    ∷ (codes "a\"b", load ∷ codes "ab\n" ∷ []) ∷ (codes "\"\"", load ∷ [] ∷ [])
    ∷ (codes "\\", load ∷ codes "\n" ∷ []) ∷ (codes "a\\b", load ∷ codes "ab" ∷ [])
    ∷ (codes "a\\\\b", load ∷ codes "a\\b" ∷ []) ∷ (codes "a\\ b", load ∷ codes "a b" ∷ [])
    ∷ (codes "a\\", load ∷ codes "a\n" ∷ []) ∷ (codes "\"\\a\"", load ∷ codes "\\a" ∷ [])
    ∷ (codes "\"a*\\\"", load ∷ codes "a*\\\"\n" ∷ []) ∷ (codes "'a\\'\"[\"b", load ∷ codes "a\\[b" ∷ [])
    ∷ (codes "'a\\'\"*\"", load ∷ codes "a\\*" ∷ []) ∷ (codes "'a\\'\"?\"", load ∷ codes "a\\?" ∷ [])
    ∷ (codes "'a\\'*", load ∷ codes "a*" ∷ []) ∷ (codes "#", load ∷ []) ∷ (codes "a#", load ∷ codes "a#" ∷ [])
    ∷ (codes "a #b", load ∷ codes "a" ∷ []) ∷ (codes "\"\"#a", load ∷ [] ∷ [])
    ∷ (codes "\"#a\"", load ∷ codes "#a" ∷ [])
    ∷ ((97 ∷ 4 ∷ 98 ∷ 32 ∷ 99 ∷ 4 ∷ 100 ∷ []), load ∷ codes "ab cd" ∷ []) ∷ ((97 ∷ 4 ∷ 98 ∷ []), []) ∷ []

abbrev bare_words : List Word
bare_words = (Bytes load ∷ []) ∷ (Var (codes "x") true ∷ []) ∷ []

bare_found : found bare_words bare ≡ expected bare
unfolding old_fields command_text word_text inserted variable_of behind_variable read reread joined atoms fields digits
bare_found = refl

-- ---- `load "$x"`: it is between single quotes

abbrev in_quotes : List Row
in_quotes =
    (codes "a b", load ∷ codes "a b" ∷ []) ∷ ((97 ∷ 9 ∷ 98 ∷ []), load ∷ (97 ∷ 9 ∷ 98 ∷ []) ∷ [])
    ∷ (codes "a\nb", load ∷ codes "a b" ∷ []) ∷ (codes "#a", load ∷ codes "#a" ∷ [])
    ∷ (codes "a\"b", load ∷ codes "a\"b" ∷ []) ∷ (codes "a\\b", load ∷ codes "ab" ∷ [])
    ∷ (codes "a\\\\b", load ∷ codes "a\\b" ∷ []) ∷ (codes "a\\", load ∷ codes "a" ∷ []) ∷ (codes "it's", [])
    ∷ (codes "a' b 'c", load ∷ codes "a" ∷ codes "b" ∷ codes "c" ∷ []) ∷ (codes "'", []) ∷ []

abbrev in_quotes_words : List Word
in_quotes_words = (Bytes load ∷ []) ∷ (Mark ∷ Var (codes "x") false ∷ []) ∷ []

in_quotes_found : found in_quotes_words in_quotes ≡ expected in_quotes
unfolding old_fields command_text word_text inserted variable_of behind_variable read reread joined atoms fields digits
in_quotes_found = refl

-- ---- `load $x "$x" b`

abbrev both : List Row
both =
    (codes "a", load ∷ codes "a" ∷ codes "a" ∷ codes "b" ∷ []) ∷ (codes "\"", load ∷ codes " \" b\n" ∷ [])
    ∷ (codes "#", load ∷ []) ∷ (codes "a\\", load ∷ codes "a a" ∷ codes "b" ∷ [])
    ∷ (codes "'", load ∷ codes " " ∷ codes "b" ∷ []) ∷ []

abbrev both_words : List Word
both_words =
    (Bytes load ∷ []) ∷ (Var (codes "x") true ∷ []) ∷ (Mark ∷ Var (codes "x") false ∷ [])
    ∷ (Bytes (codes "b") ∷ []) ∷ []

both_found : found both_words both ≡ expected both
unfolding old_fields command_text word_text inserted variable_of behind_variable read reread joined atoms fields digits
both_found = refl

-- ---- `load a${x}b`

abbrev within : List Row
within =
    (codes "b c", load ∷ codes "ab" ∷ codes "cb" ∷ []) ∷ (codes "#", load ∷ codes "a#b" ∷ []) ∷ (codes "'", [])
    ∷ (codes "\"", load ∷ codes "ab\n" ∷ []) ∷ (codes " # ", load ∷ codes "a" ∷ [])
    ∷ (codes "\\", load ∷ codes "ab" ∷ []) ∷ []

abbrev within_words : List Word
within_words = (Bytes load ∷ []) ∷ (Bytes (codes "a") ∷ Var (codes "x") true ∷ Bytes (codes "b") ∷ []) ∷ []

within_found : found within_words within ≡ expected within
unfolding old_fields command_text word_text inserted variable_of behind_variable read reread joined atoms fields digits
within_found = refl

-- ---- `load $x $x`: what a quote opens in one word, a quote in the next one closes

abbrev twice : List Row
twice =
    (codes "\"", load ∷ codes " " ∷ []) ∷ (codes "it's", load ∷ codes "its its" ∷ [])
    ∷ (codes "\\", load ∷ codes " \n" ∷ []) ∷ []

abbrev twice_words : List Word
twice_words = (Bytes load ∷ []) ∷ (Var (codes "x") true ∷ []) ∷ (Var (codes "x") true ∷ []) ∷ []

twice_found : found twice_words twice ≡ expected twice
unfolding old_fields command_text word_text inserted variable_of behind_variable read reread joined atoms fields digits
twice_found = refl

-- ---- `load $x''`: quotes anywhere in a word hold the whole word

abbrev held : List Row
held =
    (codes "b c", load ∷ codes "b c" ∷ []) ∷ (codes "#", load ∷ codes "#" ∷ [])
    ∷ (codes "\"", load ∷ codes "\"" ∷ []) ∷ (codes "a\\", load ∷ codes "a" ∷ []) ∷ []

abbrev held_words : List Word
held_words = (Bytes load ∷ []) ∷ (Var (codes "x") true ∷ Mark ∷ []) ∷ []

held_found : found held_words held ≡ expected held
unfolding old_fields command_text word_text inserted variable_of behind_variable read reread joined atoms fields digits
held_found = refl

-- ---- `load a"$x" b`

abbrev behind_bytes : List Row
behind_bytes =
    (codes "b c", load ∷ codes "ab c" ∷ codes "b" ∷ []) ∷ (codes "'b' c'", []) ∷ []

abbrev behind_bytes_words : List Word
behind_bytes_words =
    (Bytes load ∷ []) ∷ (Bytes (codes "a") ∷ Mark ∷ Var (codes "x") false ∷ []) ∷ (Bytes (codes "b") ∷ []) ∷ []

behind_bytes_found : found behind_bytes_words behind_bytes ≡ expected behind_bytes
unfolding old_fields command_text word_text inserted variable_of behind_variable read reread joined atoms fields digits
behind_bytes_found = refl

-- ---- `load 'b  #' $x`: words without a variable are read again too

abbrev with_text : List Row
with_text =
    (codes "c", load ∷ codes "b  #" ∷ codes "c" ∷ []) ∷ (codes "#", load ∷ codes "b  #" ∷ []) ∷ []

abbrev with_text_words : List Word
with_text_words = (Bytes load ∷ []) ∷ (Mark ∷ Bytes (codes "b  #") ∷ []) ∷ (Var (codes "x") true ∷ []) ∷ []

with_text_found : found with_text_words with_text ≡ expected with_text
unfolding old_fields command_text word_text inserted variable_of behind_variable read reread joined atoms fields digits
with_text_found = refl

-- ---- `load b\\\\c $x`: each backslash of the two counts again

abbrev with_backslashes : List Row
with_backslashes =
    (codes "c", load ∷ codes "b\\c" ∷ codes "c" ∷ []) ∷ []

abbrev with_backslashes_words : List Word
with_backslashes_words = (Bytes load ∷ []) ∷ (Bytes (codes "b\\\\c") ∷ []) ∷ (Var (codes "x") true ∷ []) ∷ []

with_backslashes_found : found with_backslashes_words with_backslashes ≡ expected with_backslashes
unfolding old_fields command_text word_text inserted variable_of behind_variable read reread joined atoms fields digits
with_backslashes_found = refl

-- ---- `load 'a<newline>b' $x`: here the text ends with two newlines, which an open `"` takes into its word

abbrev with_newline : List Row
with_newline =
    (codes "c", load ∷ codes "a\nb" ∷ codes "c" ∷ []) ∷ (codes "\"", load ∷ codes "a\nb" ∷ codes "\n\n" ∷ [])
    ∷ (codes "#", load ∷ codes "a\nb" ∷ []) ∷ []

abbrev with_newline_words : List Word
with_newline_words = (Bytes load ∷ []) ∷ (Mark ∷ Bytes (codes "a\nb") ∷ []) ∷ (Var (codes "x") true ∷ []) ∷ []

with_newline_found : found with_newline_words with_newline ≡ expected with_newline
unfolding old_fields command_text word_text inserted variable_of behind_variable read reread joined atoms fields digits
with_newline_found = refl

-- ---- `load $x 'a<newline>b'`

abbrev with_comment : List Row
with_comment =
    (codes "c", load ∷ codes "c" ∷ codes "a\nb" ∷ []) ∷ (codes "#", load ∷ [])
    ∷ (codes "\"", load ∷ codes " a\nb\n\n" ∷ []) ∷ []

abbrev with_comment_words : List Word
with_comment_words = (Bytes load ∷ []) ∷ (Var (codes "x") true ∷ []) ∷ (Mark ∷ Bytes (codes "a\nb") ∷ []) ∷ []

with_comment_found : found with_comment_words with_comment ≡ expected with_comment
unfolding old_fields command_text word_text inserted variable_of behind_variable read reread joined atoms fields digits
with_comment_found = refl

-- ---- `load 'a<newline>b'$x`: a newline in a word with a variable is a space

abbrev newline_beside : List Row
newline_beside =
    (codes "c", load ∷ codes "a bc" ∷ []) ∷ []

abbrev newline_beside_words : List Word
newline_beside_words = (Bytes load ∷ []) ∷ (Mark ∷ Bytes (codes "a\nb") ∷ Var (codes "x") true ∷ []) ∷ []

newline_beside_found : found newline_beside_words newline_beside ≡ expected newline_beside
unfolding old_fields command_text word_text inserted variable_of behind_variable read reread joined atoms fields digits
newline_beside_found = refl

-- ---- `load $u "$u" b`: the variable is not set

abbrev unset : List Row
unset =
    (codes "a", load ∷ [] ∷ codes "b" ∷ []) ∷ []

abbrev unset_words : List Word
unset_words =
    (Bytes load ∷ []) ∷ (Var (codes "u") true ∷ []) ∷ (Mark ∷ Var (codes "u") false ∷ [])
    ∷ (Bytes (codes "b") ∷ []) ∷ []

unset_found : found unset_words unset ≡ expected unset
unfolding old_fields command_text word_text inserted variable_of behind_variable read reread joined atoms fields digits
unset_found = refl

-- ---- `load 'it"s #' "" b`: this is not read again, whatever bytes it has

abbrev no_variable : List Row
no_variable =
    (codes "a", load ∷ codes "it\"s #" ∷ [] ∷ codes "b" ∷ []) ∷ []

abbrev no_variable_words : List Word
no_variable_words =
    (Bytes load ∷ []) ∷ (Mark ∷ Bytes (codes "it\"s #") ∷ []) ∷ (Mark ∷ []) ∷ (Bytes (codes "b") ∷ []) ∷ []

no_variable_found : found no_variable_words no_variable ≡ expected no_variable
unfolding old_fields command_text word_text inserted variable_of behind_variable read reread joined atoms fields digits
no_variable_found = refl

-- ---- `load \# $?`: the status is 0

abbrev with_status : List Row
with_status =
    (codes "a", load ∷ []) ∷ []

abbrev with_status_words : List Word
with_status_words = (Bytes load ∷ []) ∷ (Bytes (codes "#") ∷ []) ∷ (Status ∷ []) ∷ []

with_status_found : found with_status_words with_status ≡ expected with_status
unfolding old_fields command_text word_text inserted variable_of behind_variable read reread joined atoms fields digits
with_status_found = refl

-- ---- `for i in $x`: spaces cut, and nothing else acts

abbrev turns_bare : List Row
turns_bare =
    (codes "a b", codes "a" ∷ codes "b" ∷ []) ∷ (codes " a  b ", codes "a" ∷ codes "b" ∷ [])
    ∷ ((97 ∷ 9 ∷ 98 ∷ []), (97 ∷ 9 ∷ 98 ∷ []) ∷ []) ∷ (codes "a\nb", codes "a" ∷ codes "b" ∷ [])
    ∷ (codes "it's", codes "it's" ∷ []) ∷ (codes "\"a b\"", codes "\"a" ∷ codes "b\"" ∷ [])
    ∷ (codes "a\\ b", codes "a\\" ∷ codes "b" ∷ []) ∷ (codes "#a #", codes "#a" ∷ codes "#" ∷ [])
    ∷ (codes "\\", codes "\\" ∷ []) ∷ (codes "\"\"", codes "\"\"" ∷ []) ∷ []

abbrev turns_bare_words : List Word
turns_bare_words = (Var (codes "x") true ∷ []) ∷ []

turns_bare_turns : turns turns_bare_words turns_bare ≡ expected turns_bare
unfolding old_turns inserted variable_of behind_variable joined atoms
turns_bare_turns = refl

-- ---- `for i in "$x" $u b`: double quotes do not hold the words together, and an empty word is no turn

abbrev turns_in_quotes : List Row
turns_in_quotes =
    (codes "a b", codes "a" ∷ codes "b" ∷ codes "b" ∷ []) ∷ (codes " ", codes "b" ∷ [])
    ∷ (codes "'", codes "'" ∷ codes "b" ∷ []) ∷ []

abbrev turns_in_quotes_words : List Word
turns_in_quotes_words =
    (Mark ∷ Var (codes "x") false ∷ []) ∷ (Var (codes "u") true ∷ []) ∷ (Bytes (codes "b") ∷ []) ∷ []

turns_in_quotes_turns : turns turns_in_quotes_words turns_in_quotes ≡ expected turns_in_quotes
unfolding old_turns inserted variable_of behind_variable joined atoms
turns_in_quotes_turns = refl

-- ---- `for i in a${x}b ''`

abbrev turns_within : List Row
turns_within =
    (codes "b c", codes "ab" ∷ codes "cb" ∷ []) ∷ (codes " ", codes "a" ∷ codes "b" ∷ []) ∷ []

abbrev turns_within_words : List Word
turns_within_words = (Bytes (codes "a") ∷ Var (codes "x") true ∷ Bytes (codes "b") ∷ []) ∷ (Mark ∷ []) ∷ []

turns_within_turns : turns turns_within_words turns_within ≡ expected turns_within
unfolding old_turns inserted variable_of behind_variable joined atoms
turns_within_turns = refl

-- ---- `for i in 'a  b' "c<newline>d"`: so it is without a variable too, but for the newline

abbrev turns_text : List Row
turns_text =
    (codes "a", codes "a" ∷ codes "b" ∷ codes "c\nd" ∷ []) ∷ []

abbrev turns_text_words : List Word
turns_text_words = (Mark ∷ Bytes (codes "a  b") ∷ []) ∷ (Mark ∷ Bytes (codes "c\nd") ∷ []) ∷ []

turns_text_turns : turns turns_text_words turns_text ≡ expected turns_text
unfolding old_turns inserted variable_of behind_variable joined atoms
turns_text_turns = refl

-- ---- `load a${x:-b c}d`: the default is for a variable that has no value

abbrev defaults : List Row
defaults =
    ([], load ∷ codes "ab" ∷ codes "cd" ∷ []) ∷ (codes "v", load ∷ codes "avd" ∷ []) ∷ []

abbrev defaults_words : List Word
defaults_words = (Bytes load ∷ []) ∷ (Bytes (codes "a") ∷ Var (codes "x:-b c") true ∷ Bytes (codes "d") ∷ []) ∷ []

defaults_found : found defaults_words defaults ≡ expected defaults
unfolding old_fields command_text word_text inserted variable_of behind_variable read reread joined atoms fields digits
defaults_found = refl

-- ---- `load "${x:+b'c}" ${u:-'d e'}`: so it is after `:+`, and its quotes act

abbrev reversed : List Row
reversed =
    ([], []) ∷ (codes "v", load ∷ [] ∷ codes "d e" ∷ []) ∷ []

abbrev reversed_words : List Word
reversed_words = (Bytes load ∷ []) ∷ (Mark ∷ Var (codes "x:+b'c") false ∷ []) ∷ (Var (codes "u:-'d e'") true ∷ []) ∷ []

reversed_found : found reversed_words reversed ≡ expected reversed
unfolding old_fields command_text word_text inserted variable_of behind_variable read reread joined atoms fields digits
reversed_found = refl

-- ---- `load ${x:?b}${x:b}${x:} ${:-$u:+b}`: other bytes after the `:` change nothing, and a variable in them is none

abbrev without_default : List Row
without_default =
    ([], load ∷ codes "$u:+b" ∷ []) ∷ (codes "v", load ∷ codes "vvv" ∷ codes "$u:+b" ∷ []) ∷ []

abbrev without_default_words : List Word
without_default_words =
    (Bytes load ∷ []) ∷ (Var (codes "x:?b") true ∷ Var (codes "x:b") true ∷ Var (codes "x:") true ∷ []) ∷ (Var (codes ":-$u:+b") true ∷ []) ∷ []

without_default_found : found without_default_words without_default ≡ expected without_default
unfolding old_fields command_text word_text inserted variable_of behind_variable read reread joined atoms fields digits
without_default_found = refl

-- ---- `for i in ${x:-a b}`

abbrev turns_default : List Row
turns_default =
    ([], codes "a" ∷ codes "b" ∷ []) ∷ (codes "v w", codes "v" ∷ codes "w" ∷ []) ∷ []

abbrev turns_default_words : List Word
turns_default_words = (Var (codes "x:-a b") true ∷ []) ∷ []

turns_default_turns : turns turns_default_words turns_default ≡ expected turns_default
unfolding old_turns inserted variable_of behind_variable joined atoms
turns_default_turns = refl
