-- The pieces of a word.
-- Ours.
use Rattle.std.specs.Prelude.{◌≡◌, ◌≢◌, ℕ, List, [], ◌∷◌, ◌++◌, map, Result, Ok, Err}
use Rattle.std.specs.declared.vec.Vec.{Vec}
use Rattle.std.specs.declared.alloc.Global.{Global}
use Rattle.hushlang.specs.Token.{Part, Plain, Kept, Mark, Var, Status}
use Rattle.hushlang.specs.Tokenizing.{Seen, Takes, Refuses}
use Rattle.hushlang.specs.Tree as tree
use Rattle.hushlang.specs.TreesShown as view
use Rattle.hushlang.specs.declared.tree.Piece.{Piece}
use Rattle.hushlang.specs.declared.word_pieces.Gathering.{Gathering}
use Rattle.hushlang.specs.declared.token.SyntaxError.{SyntaxError}
use Rattle.hushlang.specs.declared.token.SyntaxError.TheVariants.{Memory}

-- a byte before pieces: neighbouring bytes are in one piece
abbrev pub with_byte : ℕ → List tree.Piece → List tree.Piece
with_byte b (tree.Bytes bytes ∷ pieces) = tree.Bytes (b ∷ bytes) ∷ pieces
with_byte b pieces = tree.Bytes (b ∷ []) ∷ pieces

unfoldable pub pieces : List Part → List tree.Piece
pieces [] = []
pieces (Plain b ∷ parts) = with_byte b (pieces parts)
pieces (Kept b ∷ parts) = with_byte b (pieces parts)
pieces (Mark ∷ parts) = tree.Mark ∷ pieces parts
pieces (Var name split ∷ parts) = tree.Var name split ∷ pieces parts
pieces (Status ∷ parts) = tree.Status ∷ pieces parts

-- the pieces of a word, or what refuses it
abbrev pub pieces_in : Seen → Result (List tree.Piece) SyntaxError
pieces_in (Takes stop parts) = Ok (pieces parts)
pieces_in (Refuses error) = Err error

-- these pieces or this refusal, unless memory runs out
abbrev pub GivesPieces : Result (List tree.Piece) SyntaxError → Result (Vec Piece Global) SyntaxError → Type 0
GivesPieces wanted (Ok found) = wanted ≡ Ok (map view.piece found.items)
GivesPieces wanted (Err error) = error ≢ Memory → wanted ≡ Err error

-- ---- on the way

-- pieces that are whole, and the bytes of one that may still grow
pub record PiecesSoFar : Type 0 where
  pub pieces : List tree.Piece
  pub bytes : List ℕ

abbrev pub pieces_so_far : Gathering → PiecesSoFar
pieces_so_far g = record { pieces = map view.piece g.pieces.items; bytes = g.bytes.items }

abbrev pub in_piece : List ℕ → List tree.Piece
in_piece [] = []
in_piece (b ∷ bytes) = tree.Bytes (b ∷ bytes) ∷ []

abbrev pub closed : PiecesSoFar → PiecesSoFar
closed g = record { pieces = g.pieces ++ in_piece g.bytes; bytes = [] }

abbrev pub with_piece : PiecesSoFar → tree.Piece → PiecesSoFar
with_piece g piece = record { pieces = (closed g).pieces ++ piece ∷ []; bytes = [] }

abbrev pub with_part : PiecesSoFar → Part → PiecesSoFar
with_part g (Plain b) = record { pieces = g.pieces; bytes = g.bytes ++ b ∷ [] }
with_part g (Kept b) = record { pieces = g.pieces; bytes = g.bytes ++ b ∷ [] }
with_part g Mark = with_piece g tree.Mark
with_part g (Var name split) = with_piece g (tree.Var name split)
with_part g Status = with_piece g tree.Status

abbrev pub with_parts : PiecesSoFar → List Part → PiecesSoFar
with_parts g [] = g
with_parts g (part ∷ parts) = with_parts (with_part g part) parts

-- what is gathered after known pieces, if these parts are to come
abbrev pub pieces_behind : PiecesSoFar → Seen → Result (List tree.Piece) SyntaxError
pieces_behind g (Takes stop parts) = Ok (closed (with_parts g parts)).pieces
pieces_behind g (Refuses error) = Err error
