-- The words of a command, and those of a `for`, as U-Boot's old shell finds them (U-Boot 2023.01, common/cli_hush.c;
-- 2025.01 has the same). `fields`, of hushlang, are those of ubtool's own language. Here a command whose words have a
-- variable or `$?` is read a second time, as a text that holds the values: their quotes, backslashes and `#` act.
-- Bytes above 127 are bytes like others, as in 2025.01. `IFS` and `HUSH_NO_EVAL`, by which a user changes these rules,
-- are not set.
use Rattle.std.specs.Prelude.{ℕ, ◌==◌, Bool, true, false, not, ◌&&◌, ◌||◌, List, [], ◌∷◌, ◌++◌, map, filter, flat_map, if◌then◌else◌, Option, Some, None, unwrap_or}
use Rattle.std.specs.List.{list_any, slice_split}
use Rattle.text.specs.Bytes as ascii
use Rattle.hushlang.specs.Tree.{Word}
use Rattle.hushlang.specs.Expansion.{Parameters, joined, fields}
use Rattle.hushlang.specs.KnownFields.{is_constant_word, are_constant}
use Rattle.hushlang_uboot.specs.Pieces.{is_mark}
use Rattle.hushlang_uboot.specs.ReadBytes.{has_bytes, is_newline, is_space_or_tab, unescaped}
use Rattle.hushlang_old.specs.Defaults.{looked_up}

-- ---- the values in a word (`insert_var_value`)

abbrev pub newline_to_space : ℕ → ℕ
newline_to_space byte = if byte == ascii.newline then ascii.space else byte

-- all bytes of a word; if it has a variable, each newline in it is a space then (`insert_var_value`)
unfoldable pub inserted : Parameters → Word → List ℕ
inserted parameters word =
    if is_constant_word word then joined (looked_up parameters) word
    else map newline_to_space (joined (looked_up parameters) word)

-- ---- the text of a command (`make_string`)

abbrev pub has_quotes : Word → Bool
has_quotes word = list_any is_mark word

-- a word that had quotes is put between single quotes, whatever bytes it has
unfoldable pub word_text : Parameters → Word → List ℕ
word_text parameters word =
    if has_quotes word then (ascii.quote ∷ inserted parameters word) ++ ascii.quote ∷ []
    else inserted parameters word

-- each word after a space; the space in front changes nothing
abbrev pub words_text : Parameters → List Word → List ℕ
words_text parameters words = flat_map (λ word. ascii.space ∷ word_text parameters word) words

-- a newline is added, and first a further one if the text has one already (`parse_string_outer`)
abbrev pub with_end : List ℕ → List ℕ
with_end text = (if list_any is_newline text then text ++ ascii.newline ∷ [] else text) ++ ascii.newline ∷ []

unfoldable pub command_text : Parameters → List Word → List ℕ
command_text parameters words = with_end (words_text parameters words)

-- ---- a text that is read a second time (`parse_stream`, FLAG_REPARSING), byte by byte

-- what the next byte is
pub data Place : Type 0 where
  -- a byte that may act
  Open : Place
  -- the byte after a backslash
  Behind : Place
  -- a byte in single quotes: they go to the next byte that is equal to the one that opened them
  Single : (opening : ℕ) → Place
  -- a byte after the end, which is not read
  Ended : Place

-- the words that are whole, the bytes of the word on the way, whether quotes have begun it, whether double quotes are
-- open, and what the next byte is
pub record Reading : Type 0 where
  pub whole : List (List ℕ)
  pub word : List ℕ
  pub begun : Bool
  pub double : Bool
  pub place : Place

abbrev pub nothing_read : Reading
nothing_read = record { whole = []; word = []; begun = false; double = false; place = Open }

abbrev pub at_place : Place → Reading → Reading
at_place place r = record r { place = place }

abbrev pub with_bytes : List ℕ → Reading → Reading
with_bytes bytes r = record r { word = r.word ++ bytes }

-- `*`, `?`, `[` or a backslash
abbrev pub is_guarded : ℕ → Bool
is_guarded byte = byte == 42 || byte == ascii.question_mark || byte == 91 || byte == ascii.backslash

-- in double quotes a backslash is put before these (`b_addqchr`)
abbrev pub guarded : (double : Bool) → ℕ → List ℕ
guarded double byte = if double && is_guarded byte then ascii.backslash ∷ byte ∷ [] else byte ∷ []

abbrev pub with_guarded : ℕ → Reading → Reading
with_guarded byte r = with_bytes (guarded r.double byte) r

-- the word on the way, if it has quotes or bytes
abbrev pub found : (begun : Bool) → (word : List ℕ) → List (List ℕ)
found begun word = if begun || has_bytes word then unescaped false word ∷ [] else []

-- the word on the way ends (`done_word`)
abbrev pub word_ended : Reading → Reading
word_ended r = record r { whole = r.whole ++ found r.begun r.word; word = []; begun = false }

-- `'`, and the byte 4 (`SUBSTED_VAR_SYMBOL`)
abbrev pub is_single : ℕ → Bool
is_single byte = byte == ascii.quote || byte == 4

-- the text ends at a newline, and at `#` where the word on the way has no bytes
abbrev pub ends_text : ℕ → Reading → Bool
ends_text byte r = is_newline byte || (byte == ascii.hash && not (has_bytes r.word))

-- a byte outside all quotes that is neither a quote nor a backslash
abbrev pub read_bare : ℕ → Reading → Reading
read_bare byte r =
    if ends_text byte r then at_place Ended (word_ended r)
    else (if is_space_or_tab byte then word_ended r else with_bytes (byte ∷ []) r)

-- a byte that may act: quotes begin a word, and double quotes close what double quotes have opened
abbrev pub read_open : ℕ → Reading → Reading
read_open byte r =
    if byte == ascii.backslash then at_place Behind (with_guarded byte r)
    else (if is_single byte then record r { begun = true; place = Single byte }
    else (if byte == ascii.double_quote then record r { begun = true; double = not r.double }
    else (if r.double then with_guarded byte r else read_bare byte r)))

abbrev pub read_at : Place → ℕ → Reading → Reading
read_at Open byte r = read_open byte r
read_at Behind byte r = at_place Open (with_guarded byte r)
read_at (Single opening) byte r = if byte == opening then at_place Open r else with_bytes (byte ∷ []) r
read_at Ended byte r = r

unfoldable pub read : ℕ → Reading → Reading
read byte r = read_at r.place byte r

abbrev pub read_all : List ℕ → Reading → Reading
read_all [] r = r
read_all (byte ∷ bytes) r = read_all bytes (read byte r)

-- the words, unless single quotes are still open: double quotes may be, and after a backslash no command's text ends
abbrev pub words_read : Place → Reading → Option (List (List ℕ))
words_read (Single opening) r = None
words_read place r = Some (r.whole ++ found r.begun r.word)

abbrev pub words_of : Reading → Option (List (List ℕ))
words_of r = words_read r.place r

unfoldable pub reread : (text : List ℕ) → Option (List (List ℕ))
reread text = words_of (read_all text nothing_read)

-- ---- the whole

-- the words of a command; if its text cannot be read, it has none, and is not run
unfoldable pub old_fields : Parameters → List Word → List (List ℕ)
old_fields parameters words =
    if are_constant words then fields parameters words else unwrap_or (reread (command_text parameters words)) []

abbrev pub is_space : ℕ → Bool
is_space byte = byte == ascii.space

-- what is between spaces, where that is not empty
abbrev pub turns_in : List ℕ → List (List ℕ)
turns_in bytes = filter has_bytes (slice_split is_space bytes)

-- the result of a word of a `for`: it is not read again, and cut at spaces alone (`make_list_in`)
abbrev pub turns_of_word : Parameters → Word → List (List ℕ)
turns_of_word parameters word = turns_in (inserted parameters word)

unfoldable pub old_turns : Parameters → List Word → List (List ℕ)
old_turns parameters words = flat_map (turns_of_word parameters) words
