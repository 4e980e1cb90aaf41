-- The words of a command, and those of a `for`, as U-Boot's modern shell finds them (2025.01, common/cli_hush_upstream.c,
-- `expand_vars_to_list`). `fields`, of hushlang, are those of ubtool's own language, and of a word here that nothing can
-- change. In another word each byte of the script is as that shell keeps it, after a backslash if quotes keep it from acting in a
-- pattern; values are put in, and cut at blanks outside double quotes; and where a byte acts in a pattern then, all backslashes
-- stay. No variable `IFS` is set, and no value has the byte 3.
use Rattle.std.specs.Prelude.{ℕ, ◌==◌, Bool, true, false, ◌&&◌, ◌||◌, List, [], ◌∷◌, ◌++◌, map, flat_map, decimal, if◌then◌else◌}
use Rattle.text.specs.Bytes as ascii
use Rattle.hushlang.specs.Tree as tree
use Rattle.hushlang.specs.Tree.{Word, Piece}
use Rattle.hushlang.specs.Expansion.{Parameters, value_of, separates, fields_of_word}
use Rattle.hushlang.specs.KnownFields.{is_constant_word}
use Rattle.hushlang_uboot.specs.ReadBytes.{has_bytes}
use Rattle.hushlang_modern.specs.ModernTokens.{guarded}
use Rattle.hushlang_modern.specs.ModernWords.{without_guards}

-- a word that is being expanded: its fields that are whole, and the bytes of the field on the way; whether double quotes are in that
-- field; whether they are in the word, so that it has a field (`cant_be_null`); whether the last byte was a blank that cuts
-- (`ended_in_ifs`); and whether the last byte of a value was a backslash that the next one follows
pub record Expanding : Type 0 where
  pub whole : List (List ℕ)
  pub field : List ℕ
  pub quoted : Bool
  pub kept : Bool
  pub cut : Bool
  pub behind : Bool

abbrev pub nothing_expanded : Expanding
nothing_expanded = record { whole = []; field = []; quoted = false; kept = false; cut = false; behind = false }

-- the field on the way ends (`o_save_ptr`)
abbrev pub field_ended : Expanding → Expanding
field_ended e = record e { whole = e.whole ++ e.field ∷ []; field = []; quoted = false; cut = false }

abbrev pub with_bytes : List ℕ → Expanding → Expanding
with_bytes bytes e = record e { field = e.field ++ bytes }

-- a piece begins: a blank at the end of the piece in front of it ends the field, also an empty one
abbrev pub piece_begun : Expanding → Expanding
piece_begun e = record (if e.cut then field_ended e else e) { behind = false }

-- ---- a value outside double quotes (`expand_on_ifs`)

-- a blank that is in front of a byte of the value ends the field if that has a byte or quotes
abbrev pub blanks_ended : Expanding → Expanding
blanks_ended e = if e.cut && (e.quoted || has_bytes e.field) then field_ended e else record e { cut = false }

-- a backslash of a value is doubled, and the byte after it has a further one (`o_addblock_duplicate_backslash`)
abbrev pub doubled : (behind : Bool) → ℕ → List ℕ
doubled true byte = ascii.backslash ∷ byte ∷ []
doubled false byte = if byte == ascii.backslash then ascii.backslash ∷ ascii.backslash ∷ [] else byte ∷ []

abbrev pub is_doubled : (behind : Bool) → ℕ → Bool
is_doubled true byte = false
is_doubled false byte = byte == ascii.backslash

abbrev pub with_kept_byte : ℕ → Expanding → Expanding
with_kept_byte byte e = record (with_bytes (doubled e.behind byte) e) { behind = is_doubled e.behind byte }

abbrev pub with_value_byte : ℕ → Expanding → Expanding
with_value_byte byte e =
    if separates byte then record e { cut = true; behind = false } else with_kept_byte byte (blanks_ended e)

abbrev pub with_value : List ℕ → Expanding → Expanding
with_value [] e = e
with_value (byte ∷ bytes) e = with_value bytes (with_value_byte byte e)

-- ---- a word

abbrev pub guarded_all : List ℕ → List ℕ
guarded_all bytes = flat_map guarded bytes

abbrev pub with_variable : Parameters → (name : List ℕ) → (split : Bool) → Expanding → Expanding
with_variable parameters name true e = with_value (value_of parameters name) e
with_variable parameters name false e = with_bytes (guarded_all (value_of parameters name)) e

abbrev pub with_piece : Parameters → Piece → Expanding → Expanding
with_piece parameters (tree.Bytes bytes) e = with_bytes bytes (piece_begun e)
with_piece parameters tree.Mark e = record (piece_begun e) { quoted = true; kept = true }
with_piece parameters (tree.Var name split) e = with_variable parameters name split (piece_begun e)
with_piece parameters tree.Status e = with_bytes (decimal parameters.status) (piece_begun e)

abbrev pub with_pieces : Parameters → List Piece → Expanding → Expanding
with_pieces parameters [] e = e
with_pieces parameters (piece ∷ pieces) e = with_pieces parameters pieces (with_piece parameters piece e)

-- the last field, which is none if it has neither a byte nor quotes
abbrev pub last_field : Expanding → List (List ℕ)
last_field e = if e.kept || has_bytes e.field then e.field ∷ [] else []

abbrev pub all_fields : Expanding → List (List ℕ)
all_fields e = e.whole ++ last_field e

-- the fields of a word that a value may change
unfoldable pub expanded : Parameters → Word → List (List ℕ)
expanded parameters word = map without_guards (all_fields (with_pieces parameters word nothing_expanded))

abbrev pub modern_fields_of_word : Parameters → Word → List (List ℕ)
modern_fields_of_word parameters word =
    if is_constant_word word then fields_of_word parameters word else expanded parameters word

-- the words of a command or of a `for`
unfoldable pub modern_fields : Parameters → List Word → List (List ℕ)
modern_fields parameters words = flat_map (modern_fields_of_word parameters) words
