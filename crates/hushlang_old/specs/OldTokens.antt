-- The tokens of a text as U-Boot's old shell reads it (common/cli_hush.c, `parse_stream`), byte by byte. A text that has a
-- construct that is not followed here has none: bytes 3 and 4 and those above 127, which that shell uses itself or takes for
-- signed numbers; a backslash, a first `$` or `:=` in braces; and single quotes that end after a backslash.
use Rattle.std.specs.Prelude.{ℕ, ◌+◌, ◌==◌, Bool, true, false, not, ◌&&◌, ◌||◌, List, [], ◌∷◌, ◌++◌, length, nat_le, if◌then◌else◌, Option, Some, None}
use Rattle.std.specs.List.{prefix_len}
use Rattle.text.specs.Bytes as ascii
use Rattle.hushlang.specs.ByteClasses.{is_between}
use Rattle.hushlang.specs.Tree as tree
use Rattle.hushlang.specs.Tree.{Piece}
use Rattle.hushlang.specs.declared.tree.Op.{Op}
use Rattle.hushlang.specs.declared.tree.Op.TheVariants.{And, Or}
use Rattle.hushlang_uboot.specs.Gathered as gathered
use Rattle.hushlang_uboot.specs.Gathered.{Gathered}
use Rattle.hushlang_uboot.specs.ReadBytes.{has_bytes, is_newline, is_space_or_tab, sign_of}
use Rattle.hushlang_old.specs.Defaults.{sets_variable}

-- a word: its pieces, none of which is quotes; whether it has quotes; whether it has a backslash, which keeps it from being
-- reserved; and whether a blank or a newline is after it, and no `;` or operator
pub record FoundWord : Type 0 where
  pub pieces : List Piece
  pub quoted : Bool
  pub escaped : Bool
  pub apart : Bool

pub data Token : Type 0 where
  Word : (word : FoundWord) → Token
  -- `;` or a newline
  Ends : Token
  -- `&&` or `||`
  Joins : (op : Op) → Token
  -- a fault: a single `&` or `|`, or single quotes or a brace without an end
  Breaks : Token

-- what the next byte is
pub data Place : Type 0 where
  -- a byte that may act
  Open : Place
  -- the byte after a backslash
  Behind : Place
  -- a byte in single quotes, and whether it is after a backslash
  Single : (behind : Bool) → Place
  -- the byte after `$`, after `$` and the first bytes of a name, and after `${` and some bytes
  Dollar : Place
  Name : (name : List ℕ) → Place
  Brace : (name : List ℕ) → Place
  -- a byte of a comment
  Comment : Place
  -- the byte after the first `&` or `|`
  Joint : (op : Op) → Place
  -- a byte after a fault, and after what is not followed
  Broken : Place
  Refused : Place

-- the tokens that are whole; of the word on the way what has been read, whether it has quotes and whether a backslash; whether
-- double quotes are open; and what the next byte is
pub record Reading : Type 0 where
  pub tokens : List Token
  pub word : Gathered
  pub quoted : Bool
  pub escaped : Bool
  pub double : Bool
  pub place : Place

abbrev pub nothing_read : Reading
nothing_read = record { tokens = []; word = gathered.nothing; quoted = false; escaped = false; double = false; place = Open }

abbrev pub at_place : Place → Reading → Reading
at_place place r = record r { place = place }

-- ---- the word on the way

abbrev pub with_byte : ℕ → Reading → Reading
with_byte byte r = record r { word = gathered.with_byte byte r.word }

abbrev pub with_piece : Piece → Reading → Reading
with_piece piece r = record r { word = gathered.with_piece piece r.word }

abbrev pub found : (apart : Bool) → Reading → List Token
found apart r =
    if r.quoted || gathered.has_read r.word
    then Word (record { pieces = gathered.all_pieces r.word; quoted = r.quoted; escaped = r.escaped; apart = apart }) ∷ [] else []

-- the word on the way ends (`done_word`)
abbrev pub word_ended : (apart : Bool) → Reading → Reading
word_ended apart r = record r { tokens = r.tokens ++ found apart r; word = gathered.nothing; quoted = false; escaped = false }

-- a token that is no word
abbrev pub with_token : (apart : Bool) → Token → Reading → Reading
with_token apart token r = record (word_ended apart r) { tokens = (r.tokens ++ found apart r) ++ token ∷ [] }

-- ---- the classes of bytes

abbrev pub is_foreign : ℕ → Bool
is_foreign byte = byte == 3 || byte == 4 || not (nat_le byte 127)

-- `isalpha`, and `isalnum` or `_`, of ASCII
abbrev pub is_letter : ℕ → Bool
is_letter byte = is_between ascii.small_a ascii.small_z byte || is_between ascii.capital_a ascii.capital_z byte

abbrev pub is_name_byte : ℕ → Bool
is_name_byte byte = is_letter byte || is_between ascii.digit_zero ascii.digit_nine byte || byte == ascii.underscore

abbrev pub ends_list : ℕ → Bool
ends_list byte = is_newline byte || byte == ascii.semicolon

-- ---- a byte

-- a byte outside all quotes that is neither a quote, a backslash nor `$`
abbrev pub read_bare : ℕ → Reading → Reading
read_bare byte r =
    if ends_list byte then with_token (is_newline byte) Ends r
    else (if is_space_or_tab byte then word_ended true r
    else (if byte == ascii.ampersand then at_place (Joint And) (word_ended false r)
    else (if byte == ascii.bar then at_place (Joint Or) (word_ended false r)
    else (if byte == ascii.hash && not (gathered.has_read r.word) then at_place Comment r
    else with_byte byte r))))

-- a byte that may act: quotes begin a word, and double quotes close what double quotes have opened
unfoldable pub read_open : ℕ → Reading → Reading
read_open byte r =
    if is_foreign byte then at_place Refused r
    else (if byte == ascii.backslash then at_place Behind r
    else (if byte == ascii.quote then record r { quoted = true; place = Single false }
    else (if byte == ascii.double_quote then record r { quoted = true; double = not r.double }
    else (if byte == ascii.dollar then at_place Dollar r
    else (if r.double then with_byte byte r else read_bare byte r)))))

abbrev pub backslash_kept : (double : Bool) → Reading → Reading
backslash_kept true r = with_byte ascii.backslash r
backslash_kept false r = r

-- in double quotes the backslash stays (`b_addqchr`, `done_word`)
abbrev pub read_behind : ℕ → Reading → Reading
read_behind byte r =
    if is_foreign byte then at_place Refused r
    else at_place Open (with_byte byte (backslash_kept r.double (record r { escaped = true })))

-- in single quotes a backslash is dropped, and keeps the byte after it
abbrev pub read_single : (behind : Bool) → ℕ → Reading → Reading
read_single behind byte r =
    if is_foreign byte then at_place Refused r
    else (if byte == ascii.quote then at_place (if behind then Refused else Open) r
    else (if byte == ascii.backslash && not behind then record r { escaped = true; place = Single true }
    else at_place (Single false) (with_byte byte r)))

abbrev pub variable : (name : List ℕ) → Reading → Reading
variable name r = with_piece (tree.Var name (not r.double)) r

-- after `$` (`handle_dollar`): if neither a name, `?` nor `{` follows, it is a byte
abbrev pub read_dollar : ℕ → Reading → Reading
read_dollar byte r =
    if is_letter byte then at_place (Name (byte ∷ [])) r
    else (if byte == ascii.question_mark then at_place Open (with_piece tree.Status r)
    else (if byte == ascii.open_brace then at_place (Brace []) r
    else read_open byte (at_place Open (with_byte ascii.dollar r))))

abbrev pub read_name : (name : List ℕ) → ℕ → Reading → Reading
read_name name byte r =
    if is_name_byte byte then at_place (Name (name ++ byte ∷ [])) r
    else read_open byte (at_place Open (variable name r))

-- a byte in braces that may change what they say (`lookup_param`, `get_local_var`); of a backslash only the byte after it is left
abbrev pub acts_in_brace : (is_first : Bool) → ℕ → Bool
acts_in_brace is_first byte =
    is_foreign byte || byte == ascii.backslash || byte == ascii.dollar && is_first

abbrev pub brace_ended : (name : List ℕ) → Reading → Reading
brace_ended name r = if sets_variable name then at_place Refused r else at_place Open (variable name r)

-- other bytes are in the name, which may be empty, or after it (hushlang_old/specs/Defaults.antt)
abbrev pub read_brace : (name : List ℕ) → ℕ → Reading → Reading
read_brace name byte r =
    if byte == ascii.close_brace then brace_ended name r
    else at_place (if acts_in_brace (not (has_bytes name)) byte then Refused else Brace (name ++ byte ∷ [])) r

abbrev pub read_comment : ℕ → Reading → Reading
read_comment byte r = if is_newline byte then with_token true Ends (at_place Open r) else r

abbrev pub read_joint : Op → ℕ → Reading → Reading
read_joint op byte r =
    if byte == sign_of op then with_token false (Joins op) (at_place Open r) else with_token false Breaks (at_place Broken r)

abbrev pub read_at : Place → ℕ → Reading → Reading
read_at Open byte r = read_open byte r
read_at Behind byte r = read_behind byte r
read_at (Single behind) byte r = read_single behind byte r
read_at Dollar byte r = read_dollar byte r
read_at (Name name) byte r = read_name name byte r
read_at (Brace name) byte r = read_brace name byte r
read_at Comment byte r = read_comment byte r
read_at (Joint op) byte r = read_joint op byte r
read_at Broken byte r = r
read_at Refused byte r = r

unfoldable pub read : ℕ → Reading → Reading
read byte r = read_at r.place byte r

abbrev pub read_all : List ℕ → Reading → Reading
read_all [] r = r
read_all (byte ∷ bytes) r = read_all bytes (read byte r)

-- ---- the whole

-- The tokens, if all are followed. If double quotes are open at the end, the newline there is in the last word, and no blank or
-- newline is after that
abbrev pub tokens_read : Place → Reading → Option (List Token)
tokens_read Open r = Some (r.tokens ++ found (not r.double) r ++ Ends ∷ [])
tokens_read (Single behind) r = Some (r.tokens ++ Breaks ∷ [])
tokens_read (Brace name) r = Some (r.tokens ++ Breaks ∷ [])
tokens_read Broken r = Some r.tokens
tokens_read place r = None

abbrev pub tokens_in : Reading → Option (List Token)
tokens_in r = tokens_read r.place r

abbrev pub is_no_newline : ℕ → Bool
is_no_newline byte = not (is_newline byte)

-- whether the first newline of a text is its last byte
abbrev pub ends_line : (text : List ℕ) → Bool
ends_line text = prefix_len is_no_newline text + 1 == length text

-- a newline is added at the end of other texts (`parse_string_outer`)
abbrev pub end_of : (text : List ℕ) → List ℕ
end_of text = if ends_line text then [] else ascii.newline ∷ []

abbrev pub tokens_behind : (text : List ℕ) → Reading → Option (List Token)
tokens_behind text r = tokens_in (read_all (end_of text) (read_all text r))

unfoldable pub old_tokens : (text : List ℕ) → Option (List Token)
old_tokens text = tokens_behind text nothing_read
