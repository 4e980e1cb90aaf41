-- What has been read of a word, as U-Boot's old shell and its modern one gather it.
use Rattle.std.specs.Prelude.{ℕ, Bool, true, false, ◌||◌, List, [], ◌∷◌, ◌++◌}
use Rattle.hushlang.specs.Tree.{Piece}
use Rattle.hushlang.specs.WordPieces.{in_piece}
use Rattle.hushlang_uboot.specs.ReadBytes.{has_bytes}

-- the pieces that are whole, and the bytes after them
pub record Gathered : Type 0 where
  pub pieces : List Piece
  pub bytes : List ℕ

abbrev pub nothing : Gathered
nothing = record { pieces = []; bytes = [] }

abbrev pub with_bytes : List ℕ → Gathered → Gathered
with_bytes bytes g = record g { bytes = g.bytes ++ bytes }

abbrev pub with_byte : ℕ → Gathered → Gathered
with_byte byte g = with_bytes (byte ∷ []) g

-- the bytes after the pieces are a piece, if there are any
abbrev pub all_pieces : Gathered → List Piece
all_pieces g = g.pieces ++ in_piece g.bytes

abbrev pub bytes_closed : Gathered → Gathered
bytes_closed g = record { pieces = all_pieces g; bytes = [] }

abbrev pub with_piece : Piece → Gathered → Gathered
with_piece piece g = record { pieces = all_pieces g ++ piece ∷ []; bytes = [] }

abbrev pub has_pieces : List Piece → Bool
has_pieces [] = false
has_pieces (piece ∷ pieces) = true

-- whether a byte or a variable has been read of the word
abbrev pub has_read : Gathered → Bool
has_read g = has_bytes g.bytes || has_pieces g.pieces
