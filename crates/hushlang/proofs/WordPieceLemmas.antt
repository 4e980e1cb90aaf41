-- Pieces that are gathered one part after another.
use Rattle.std.proofs.Common.{◌≡◌, ℕ, List, [], ◌∷◌, ◌++◌, refl, ap, sym, ◌∙◌, append_assoc, arith, Bool, Ok}
use Rattle.hushlang.specs.Token.{Part, Plain, Kept, Mark, Var, Status}
use Rattle.hushlang.specs.Tokenizing.{Seen, Takes, Refuses, in_front}
use Rattle.hushlang.specs.Tree as tree
use Rattle.hushlang.specs.Laws.{AreJoined, PiecesJoined}
use Rattle.hushlang.specs.WordPieces.{with_byte, pieces, pieces_in, PiecesSoFar, in_piece, closed, with_piece, with_part, with_parts, pieces_behind}

-- bytes before pieces
abbrev glue : List ℕ → List tree.Piece → List tree.Piece
glue [] ps = ps
glue (b ∷ bytes) ps = with_byte b (glue bytes ps)

glue-append : (bytes : List ℕ) (b : ℕ) (ps : List tree.Piece) → glue (bytes ++ b ∷ []) ps ≡ glue bytes (with_byte b ps)
glue-append [] b ps = refl
glue-append (c ∷ bytes) b ps = ap (with_byte c) (glue-append bytes b ps)

glue_end : (bytes : List ℕ) → glue bytes [] ≡ in_piece bytes
glue_end [] = refl
glue_end (b ∷ []) = refl
glue_end (b ∷ c ∷ bytes) = ap (with_byte b) (glue_end (c ∷ bytes))

glue_mark : (bytes : List ℕ) (ps : List tree.Piece) → glue bytes (tree.Mark ∷ ps) ≡ in_piece bytes ++ tree.Mark ∷ ps
glue_mark [] ps = refl
glue_mark (b ∷ []) ps = refl
glue_mark (b ∷ c ∷ bytes) ps = ap (with_byte b) (glue_mark (c ∷ bytes) ps)

glue_status : (bytes : List ℕ) (ps : List tree.Piece) → glue bytes (tree.Status ∷ ps) ≡ in_piece bytes ++ tree.Status ∷ ps
glue_status [] ps = refl
glue_status (b ∷ []) ps = refl
glue_status (b ∷ c ∷ bytes) ps = ap (with_byte b) (glue_status (c ∷ bytes) ps)

glue_var : (name : List ℕ) (split : Bool) (bytes : List ℕ) (ps : List tree.Piece) → glue bytes (tree.Var name split ∷ ps) ≡ in_piece bytes ++ tree.Var name split ∷ ps
glue_var name split [] ps = refl
glue_var name split (b ∷ []) ps = refl
glue_var name split (b ∷ c ∷ bytes) ps = ap (with_byte b) (glue_var name split (c ∷ bytes) ps)

-- after a piece that is not bytes
behind_piece : (g : PiecesSoFar) (piece : tree.Piece) (more : List tree.Piece) → glue g.bytes (piece ∷ more) ≡ in_piece g.bytes ++ piece ∷ more → (with_piece g piece).pieces ++ more ≡ g.pieces ++ glue g.bytes (piece ∷ more)
behind_piece g piece more e = append_assoc (closed g).pieces (piece ∷ []) more ∙ append_assoc g.pieces (in_piece g.bytes) (piece ∷ more) ∙ ap (λ (x : List tree.Piece). g.pieces ++ x) (sym e)

gathered_are : (parts : List Part) (g : PiecesSoFar) → (closed (with_parts g parts)).pieces ≡ g.pieces ++ glue g.bytes (pieces parts)
unfolding pieces
gathered_are [] g = ap (λ (x : List tree.Piece). g.pieces ++ x) (sym (glue_end g.bytes))
gathered_are (Plain b ∷ parts) g = gathered_are parts (with_part g (Plain b)) ∙ ap (λ (x : List tree.Piece). g.pieces ++ x) (glue-append g.bytes b (pieces parts))
gathered_are (Kept b ∷ parts) g = gathered_are parts (with_part g (Kept b)) ∙ ap (λ (x : List tree.Piece). g.pieces ++ x) (glue-append g.bytes b (pieces parts))
gathered_are (Mark ∷ parts) g = gathered_are parts (with_piece g tree.Mark) ∙ behind_piece g tree.Mark (pieces parts) (glue_mark g.bytes (pieces parts))
gathered_are (Var name split ∷ parts) g = gathered_are parts (with_piece g (tree.Var name split)) ∙ behind_piece g (tree.Var name split) (pieces parts) (glue_var name split g.bytes (pieces parts))
gathered_are (Status ∷ parts) g = gathered_are parts (with_piece g tree.Status) ∙ behind_piece g tree.Status (pieces parts) (glue_status g.bytes (pieces parts))

abbrev pub none : PiecesSoFar
none = record { pieces = []; bytes = [] }

pub from_none : (seen : Seen) → pieces_in seen ≡ pieces_behind none seen
from_none (Takes stop parts) = ap Ok (sym (gathered_are parts none))
from_none (Refuses error) = refl

pub one_more : (g : PiecesSoFar) (part : Part) (seen : Seen) → pieces_behind g (in_front (part ∷ []) seen) ≡ pieces_behind (with_part g part) seen
one_more g part (Takes stop parts) = refl
one_more g part (Refuses error) = refl

pub ruleset gathers = (from_none, one_more)

-- ---- no piece of bytes is empty, and no two are next to each other

joined_byte : (b : ℕ) (ps : List tree.Piece) → AreJoined ps → AreJoined (with_byte b ps)
joined_byte b [] h = (omega arith, refl, tt)
joined_byte b (tree.Bytes bytes ∷ ps) h = (omega arith, h.1, h.2)
joined_byte b (tree.Mark ∷ ps) h = (omega arith, refl, h)
joined_byte b (tree.Var name split ∷ ps) h = (omega arith, refl, h)
joined_byte b (tree.Status ∷ ps) h = (omega arith, refl, h)

pub pieces_joined : PiecesJoined
unfolding pieces
pieces_joined [] = tt
pieces_joined (Plain b ∷ parts) = joined_byte b (pieces parts) (pieces_joined parts)
pieces_joined (Kept b ∷ parts) = joined_byte b (pieces parts) (pieces_joined parts)
pieces_joined (Mark ∷ parts) = pieces_joined parts
pieces_joined (Var name split ∷ parts) = pieces_joined parts
pieces_joined (Status ∷ parts) = pieces_joined parts
