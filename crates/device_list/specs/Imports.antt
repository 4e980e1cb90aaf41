-- What `env import -t` sets from a text (U-Boot, cmd/nvedit.c, `do_env_import`, and lib/hashtable.c, `himport_r`). That an entry
-- is made a setting is ours.
use Rattle.std.specs.Prelude.{ℕ, ◌+◌, ◌-◌, zero, suc, ◌==◌, nat_eq, ◌&&◌, ◌||◌, not, Bool, true, false, List, [], ◌∷◌, ◌++◌, length, drop, Option, Some, None, option_map, codes, if◌then◌else◌}
use Rattle.std.specs.Str.{bytes_eq}
use Rattle.std.specs.List.{list_any}
use Rattle.text.specs.Bytes as ascii
use Rattle.text.specs.Words.{is_equals, is_space}
use Rattle.text.specs.Lines.{Text}
use Rattle.device_list.specs.Settings.{Imported, RightSide, Literal, Deleted, Setting}
use Rattle.device_list.specs.declared.imports.Part.{Part}
use Rattle.device_list.specs.declared.imports.Part.TheVariants.{Start, Blanks, Comment, Name, Value, Escape}
use Rattle.device_list.specs.declared.setting.Reading.{Reading}
use Rattle.device_list.specs.declared.setting.Reading.TheVariants.{Both, WithReturns, WithoutReturns, Unsized}

-- ---- the entries of a text

-- a variable and its value; without one it is deleted
abbrev pub Entry : Type 0
Entry = Text × Option Text

-- the entries so far; where in an entry the next byte is, and the name and the value that it has so far; and whether each
-- entry with a value has a name
pub record Entries : Type 0 where
  pub done : List Entry
  pub part : Part
  pub name : Text
  pub value : Text
  pub sound : Bool

abbrev pub no_entry : Entries
no_entry = record { done = []; part = Start; name = []; value = []; sound = true }

abbrev pub is_newline : ℕ → Bool
is_newline b = b == ascii.newline

-- no value is an empty one
abbrev pub value_read : (value : Text) → Option Text
value_read [] = None
value_read (b ∷ value) = Some (b ∷ value)

-- an empty line sets nothing
abbrev pub entry_read : (name value : Text) → List Entry
entry_read [] value = []
entry_read (b ∷ name) value = (b ∷ name, value_read value) ∷ []

-- only an empty name has to have no value
abbrev pub is_sound : (name value : Text) → Bool
is_sound [] [] = true
is_sound [] (b ∷ value) = false
is_sound (b ∷ name) value = true

-- the end of an entry
abbrev pub closed : Entries → Entries
closed s = record {
  done = s.done ++ entry_read s.name s.value;
  part = Start;
  name = [];
  value = [];
  sound = s.sound && is_sound s.name s.value;
}

abbrev pub in_part : Part → Entries → Entries
in_part part s = record s { part = part }

abbrev pub valued : ℕ → Entries → Entries
valued b s = record s { part = Value; value = s.value ++ b ∷ [] }

-- A name ends at the first `=`.
abbrev pub named : ℕ → Entries → Entries
named b s =
    if is_newline b then closed s
    else (if is_equals b then in_part Value s else record s { part = Name; name = s.name ++ b ∷ [] })

-- Blanks in front of an entry are dropped. One that starts with `#` is a comment.
abbrev pub begun : ℕ → Entries → Entries
begun b s = if is_space b then in_part Blanks s else (if b == ascii.hash then in_part Comment s else named b s)

-- in a comment and in a name a backslash is a byte as any other; in a value it takes what it means from the byte after it
abbrev pub byte_in : Part → ℕ → Entries → Entries
byte_in Start b s = begun b s
byte_in Blanks b s = begun b s
byte_in Comment b s = if is_newline b then closed s else s
byte_in Name b s = named b s
byte_in Value b s =
    if is_newline b then closed s else (if b == ascii.backslash then in_part Escape s else valued b s)
byte_in Escape b s = valued b s

abbrev pub with_byte : ℕ → Entries → Entries
with_byte b s = byte_in s.part b s

abbrev pub is_start : Part → Bool
is_start Start = true
is_start Blanks = false
is_start Comment = false
is_start Name = false
is_start Value = false
is_start Escape = false

-- no entry begins after so many bytes, but one may end there
abbrev pub read_from : (room : ℕ) → Entries → Text → Entries
read_from room s [] = s
read_from zero s (b ∷ bytes) = if is_start s.part then s else read_from zero (with_byte b s) bytes
read_from (suc room) s (b ∷ bytes) = read_from room (with_byte b s) bytes

-- at the end of the text a backslash means itself
abbrev pub last_in : Part → Entries → Entries
last_in Escape s = closed (valued ascii.backslash s)
last_in part s = closed s

-- a value without a name faults the text
abbrev pub whole : Entries → Option (List Entry)
whole s = if s.sound then Some s.done else None

abbrev pub entries_in : (room : ℕ) → Text → Option (List Entry)
entries_in room text = let s = read_from room no_entry text in whole (last_in s.part s)

-- ---- with `-r`

-- the text without the carriage returns in front of newlines
abbrev pub is_return_newline : (first second : ℕ) → Bool
is_return_newline first second = (first == ascii.carriage_return) && is_newline second

abbrev pub without_returns : Text → Text
without_returns [] = []
without_returns (b ∷ []) = b ∷ []
without_returns (b ∷ c ∷ bytes) =
    if is_return_newline b c then without_returns (c ∷ bytes) else b ∷ without_returns (c ∷ bytes)

-- U-Boot moves the bytes to the front and leaves the last ones where they are, so an entry that ends in no newline goes on in
-- them. Entries begin there only if the call names no size, and U-Boot looks for a NUL.
abbrev pub moved_entries : (room : ℕ) → (kept : Text) → Text → Option (List Entry)
moved_entries room kept text = entries_in room (kept ++ drop (length kept) text)

-- Without a size U-Boot takes the bytes up to a newline and a NUL, of which none is after the text.
abbrev pub ends_line : Text → Bool
ends_line text = bytes_eq (drop (length text - 1) text) (codes "\n")

abbrev pub unsized_room : (kept text : Text) → ℕ
unsized_room kept text = if ends_line text then length kept + 1 else length text

-- ---- the settings

abbrev pub side_of : Option Text → RightSide
side_of None = Deleted
side_of (Some value) = Literal value

-- a name is kept once
abbrev pub with_seen : List Text → Text → List Text
with_seen names name = if list_any (bytes_eq name) names then names else names ++ name ∷ []

-- each entry is a setting, which says whether it is the first one of its name
abbrev pub settings_from : Reading → (seen : List Text) → List Entry → List Setting
settings_from reading seen [] = []
settings_from reading seen (e ∷ entries) =
    (Imported e.0 reading (not (list_any (bytes_eq e.0) seen)), side_of e.1) ∷ settings_from reading (with_seen seen e.0) entries

abbrev pub joined_settings : Option (List Setting) → Option (List Setting) → Option (List Setting)
joined_settings None more = None
joined_settings (Some settings) more = option_map (λ m. settings ++ m) more

abbrev pub read_as : Reading → Option (List Entry) → Option (List Setting)
read_as reading = option_map (settings_from reading [])

abbrev pub settings_with : (kept text : Text) → Option (List Setting)
settings_with kept text =
    if nat_eq (length kept) (length text) then read_as Both (entries_in (length text) text)
    else joined_settings (read_as WithReturns (entries_in (length text) text))
    (joined_settings (read_as WithoutReturns (moved_entries (length kept) kept text)) (read_as Unsized (moved_entries (unsized_room kept text) kept text)))

-- what the text sets by each reading, if none of them finds a fault in it
abbrev pub imported : Text → Option (List Setting)
imported text = settings_with (without_returns text) text

-- ---- what a call asks for

abbrev pub is_flag : (word : Text) → Bool
is_flag [] = false
is_flag (b ∷ bytes) = b == ascii.minus

-- the words after `import`; a call that has it not as its first word reads the whole text without `-r`
abbrev pub behind_import : List Text → List Text
behind_import [] = []
behind_import (word ∷ words) = if bytes_eq word (codes "import") then words else []

-- the letters of flags
abbrev pub letter_b : ℕ
letter_b = 98

abbrev pub letter_c : ℕ
letter_c = 99

abbrev pub letter_d : ℕ
letter_d = 100

abbrev pub letter_r : ℕ
letter_r = 114

-- whether one of the flags in front has a letter
abbrev pub has_letter : (letter : ℕ) → List Text → Bool
has_letter letter [] = false
has_letter letter (word ∷ words) =
    is_flag word && (list_any (λ b. b == letter) word || has_letter letter words)

abbrev pub behind_flags : List Text → List Text
behind_flags [] = []
behind_flags (word ∷ words) = if is_flag word then behind_flags words else word ∷ words

-- the names after the address and the size: only these are set, if there are any
abbrev pub names_asked : List Text → List Text
names_asked words = drop 2 (behind_flags words)

-- `-b` and `-c` read no text, and `-d` deletes what the text has not
abbrev pub reads_text : List Text → Bool
reads_text words =
    not (has_letter letter_b words || (has_letter letter_c words || has_letter letter_d words))

abbrev pub is_of : Reading → (option named : Bool) → Bool
is_of Both option named = true
is_of WithReturns option named = not option
is_of WithoutReturns option named = option && named
is_of Unsized option named = option && not named

-- whether the word after the address is a size, and not a `-` in its place
abbrev pub names_size : (behind : List Text) → Bool
names_size [] = false
names_size (address ∷ []) = false
names_size (address ∷ size ∷ names) = not (bytes_eq size (codes "-"))

-- of the entries of a name that is asked for the first one alone is taken
abbrev pub is_asked : List Text → (name : Text) → (first : Bool) → Bool
is_asked [] name first = true
is_asked (n ∷ names) name first = first && list_any (bytes_eq name) (n ∷ names)

abbrev pub takes_behind : (words : List Text) → (name : Text) → Reading → (first : Bool) → Bool
takes_behind words name reading first =
    reads_text words && (is_of reading (has_letter letter_r words) (names_size (behind_flags words)) && is_asked (names_asked words) name first)

-- whether a call with these words takes an entry
abbrev pub takes : (words : List Text) → (name : Text) → Reading → (first : Bool) → Bool
takes words name reading first = takes_behind (behind_import words) name reading first
