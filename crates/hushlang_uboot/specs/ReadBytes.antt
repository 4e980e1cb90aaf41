-- What U-Boot's old shell and its modern one see in bytes, and the bytes of an operator (U-Boot 2025.01, common/cli_hush.c and
-- common/cli_hush_upstream.c).
use Rattle.std.specs.Prelude.{ℕ, ◌==◌, Bool, true, false, not, ◌&&◌, ◌||◌, List, [], ◌∷◌, length}
use Rattle.text.specs.Bytes as ascii
use Rattle.hushlang.specs.declared.tree.Op.{Op}
use Rattle.hushlang.specs.declared.tree.Op.TheVariants.{And, Or}

abbrev pub has_bytes : List ℕ → Bool
has_bytes bytes = not (length bytes == 0)

abbrev pub is_newline : ℕ → Bool
is_newline byte = byte == ascii.newline

abbrev pub is_space_or_tab : ℕ → Bool
is_space_or_tab byte = byte == ascii.space || byte == ascii.tab

-- a backslash before a byte is dropped, and so is one at the end (`unbackslash`)
abbrev pub unescaped : (behind : Bool) → List ℕ → List ℕ
unescaped behind [] = []
unescaped behind (byte ∷ bytes) =
    elim (byte == ascii.backslash && not behind) [
      | true ↦ unescaped true bytes
      | false ↦ byte ∷ unescaped false bytes
    ]

-- the byte that an operator has twice
abbrev pub sign_of : Op → ℕ
sign_of And = ascii.ampersand
sign_of Or = ascii.bar
