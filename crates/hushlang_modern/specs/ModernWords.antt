-- What a word says to U-Boot's modern shell (2025.01, common/cli_hush_upstream.c), whose bytes are kept as that shell keeps them.
use Rattle.std.specs.Prelude.{ℕ, ◌==◌, Bool, true, false, not, ◌&&◌, ◌||◌, List, [], ◌∷◌, ◌++◌, map, flat_map, take, drop, if◌then◌else◌, Option, Some, None, is_some, unwrap_or, codes, bytes_eq}
use Rattle.std.specs.List.{list_any, prefix_len}
use Rattle.text.specs.Bytes as ascii
use Rattle.hushlang.specs.ByteClasses.{is_name_byte, begins}
use Rattle.hushlang.specs.Tree as tree
use Rattle.hushlang.specs.Tree.{Piece}
use Rattle.hushlang.specs.WordPieces.{in_piece}
use Rattle.hushlang.specs.KnownFields.{is_constant_word}
use Rattle.hushlang_uboot.specs.ReadBytes.{has_bytes, unescaped}
use Rattle.hushlang_uboot.specs.Pieces.{is_mark}
use Rattle.hushlang_uboot.specs.Nests.{reserved_among}
use Rattle.hushlang_uboot.specs.Pieces.{only_bytes}
use Rattle.hushlang_uboot.specs.declared.reserved.Reserved.{Reserved}
use Rattle.hushlang_uboot.specs.declared.reserved.Reserved.TheVariants as r
use Rattle.hushlang_modern.specs.ModernTokens.{FoundWord, is_wild, is_name}

-- ---- patterns

-- a byte acts in a pattern if it is `*`, `?` or `[`, and no backslash is in front of it (`glob_needed`)
abbrev pub acts : (behind : Bool) → ℕ → Bool
acts behind byte = not behind && is_wild byte

-- whether a byte acts in a pattern; the first byte may be after a backslash
abbrev pub is_pattern : (behind : Bool) → List ℕ → Bool
is_pattern behind [] = false
is_pattern behind (byte ∷ bytes) = acts behind byte || is_pattern (byte == ascii.backslash && not behind) bytes

-- the bytes of a field: no file has a name here, so a pattern stays as it is, and all backslashes in it; else a backslash keeps
-- the byte after it (`perform_glob`, `unbackslash`)
abbrev pub without_guards : List ℕ → List ℕ
without_guards bytes = if is_pattern false bytes then bytes else unescaped false bytes

-- ---- the words of a command

abbrev pub bytes_of_piece : Piece → List ℕ
bytes_of_piece (tree.Bytes bytes) = bytes
bytes_of_piece piece = []

abbrev pub bytes_of : List Piece → List ℕ
bytes_of pieces = flat_map bytes_of_piece pieces

abbrev pub mark_of : List Piece → List Piece
mark_of pieces = if list_any is_mark pieces then tree.Mark ∷ [] else []

-- a word that nothing can change has the bytes of its field
abbrev pub settled : List Piece → tree.Word
settled pieces = mark_of pieces ++ in_piece (without_guards (bytes_of pieces))

-- another one is kept as it is until its values are in
abbrev pub word_of : FoundWord → tree.Word
word_of w = if is_constant_word w.pieces then settled w.pieces else w.pieces

-- a piece by which a word is a field, whatever the variables are
abbrev pub is_lasting : Piece → Bool
is_lasting (tree.Bytes bytes) = has_bytes bytes
is_lasting tree.Mark = true
is_lasting (tree.Var name split) = false
is_lasting tree.Status = true

abbrev pub is_sure : FoundWord → Bool
is_sure w = list_any is_lasting w.pieces

-- ---- reserved words (`reserved_word`)

-- the bytes of a word that has no quotes, no backslash and no variable
abbrev pub bare_bytes : FoundWord → Option (List ℕ)
bare_bytes w = if w.quoted then None else only_bytes w.pieces

-- the reserved word that a word is
abbrev pub reserved_in : FoundWord → Option Reserved
reserved_in w = reserved_among (bare_bytes w)

abbrev pub is_sign_among : Option (List ℕ) → Bool
is_sign_among (Some (byte ∷ [])) = byte == ascii.exclamation_mark || byte == ascii.open_brace || byte == ascii.close_brace
is_sign_among bytes = false

-- `!`, `{` or `}`
abbrev pub is_sign : FoundWord → Bool
is_sign w = is_sign_among (bare_bytes w)

abbrev pub is_exclamation_among : Option (List ℕ) → Bool
is_exclamation_among (Some (byte ∷ [])) = byte == ascii.exclamation_mark
is_exclamation_among bytes = false

abbrev pub is_exclamation : FoundWord → Bool
is_exclamation w = is_exclamation_among (bare_bytes w)

-- at the beginning of a command braces are as reserved words
abbrev pub brace_of : ℕ → Option Reserved
brace_of byte =
    if byte == ascii.open_brace then Some r.OpenBrace
    else (if byte == ascii.close_brace then Some r.CloseBrace
    else None)

abbrev pub brace_among : Option (List ℕ) → Option Reserved
brace_among (Some (byte ∷ [])) = brace_of byte
brace_among bytes = None

abbrev pub reserved_first : FoundWord → Option Reserved
reserved_first w = elim (brace_among (bare_bytes w)) [ Some word ↦ Some word | None ↦ reserved_in w ]

-- ---- names and assignments

abbrev pub name_among : Option (List ℕ) → Option (List ℕ)
name_among None = None
name_among (Some bytes) = if is_name bytes then Some bytes else None

-- the name of a `for`
abbrev pub name_in : FoundWord → Option (List ℕ)
name_in w = name_among (bare_bytes w)

-- a name that is not followed: an empty one, and that of the variable by which the shell cuts values
abbrev pub is_strange : List ℕ → Bool
is_strange name = not (has_bytes name) || bytes_eq name (codes "IFS")

abbrev pub unescaped_piece : Piece → Piece
unescaped_piece (tree.Bytes bytes) = tree.Bytes (unescaped false bytes)
unescaped_piece piece = piece

-- after the bytes of a name. The value has no backslashes of the shell (`expand_string_to_string`)
abbrev pub behind_name : (name : List ℕ) → (rest : List ℕ) → List Piece → Option (List ℕ × tree.Word)
behind_name name [] pieces = None
behind_name name (byte ∷ rest) pieces =
    if byte == ascii.equals then Some (name, in_piece (unescaped false rest) ++ map unescaped_piece pieces) else None

abbrev pub assigned : List Piece → Option (List ℕ × tree.Word)
assigned (tree.Bytes bytes ∷ pieces) =
    behind_name (take (prefix_len is_name_byte bytes) bytes) (drop (prefix_len is_name_byte bytes) bytes) pieces
assigned pieces = None

-- the name and the value of an assignment
unfoldable pub assignment : FoundWord → Option (List ℕ × tree.Word)
assignment w = if w.assigns then assigned w.pieces else None

abbrev pub is_assignment : FoundWord → Bool
is_assignment w = is_some (assignment w)

abbrev pub value_of : FoundWord → List ℕ × tree.Word
value_of w = unwrap_or (assignment w) ([], [])

-- ---- the first word after `if`, `while` or `until`

abbrev pub is_backslash : ℕ → Bool
is_backslash byte = byte == ascii.backslash

-- `''`, and a word that starts with a backslash or a byte in quotes that acts in a pattern: there that shell writes to memory that
-- it does not have, or makes no word (`o_addqchr`, `done_word`)
abbrev pub begins_guarded : List Piece → Bool
begins_guarded [] = true
begins_guarded (tree.Bytes bytes ∷ pieces) = begins is_backslash bytes
begins_guarded pieces = false

abbrev pub is_hazard : FoundWord → Bool
is_hazard w = begins_guarded w.pieces
