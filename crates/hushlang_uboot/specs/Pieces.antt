-- What the pieces of a word say to U-Boot's old shell and to its modern one (U-Boot 2025.01, common/cli_hush.c and
-- common/cli_hush_upstream.c).
use Rattle.std.specs.Prelude.{ℕ, Bool, true, false, List, [], ◌∷◌, Option, Some, None}
use Rattle.hushlang.specs.Tree as tree
use Rattle.hushlang.specs.Tree.{Piece}
use Rattle.hushlang_uboot.specs.ReadBytes.{has_bytes}

-- a piece that is quotes
abbrev pub is_mark : Piece → Bool
is_mark (tree.Bytes bytes) = false
is_mark tree.Mark = true
is_mark (tree.Var name split) = false
is_mark tree.Status = false

-- a piece that is quotes or has a byte; a variable counts as one
abbrev pub is_something : Piece → Bool
is_something (tree.Bytes bytes) = has_bytes bytes
is_something piece = true

-- the bytes of pieces that nothing can change
abbrev pub only_bytes : List Piece → Option (List ℕ)
only_bytes [] = Some []
only_bytes (tree.Bytes bytes ∷ []) = Some bytes
only_bytes pieces = None
