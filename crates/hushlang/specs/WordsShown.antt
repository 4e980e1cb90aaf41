-- What the program's words say.
use Rattle.std.specs.Prelude.{ℕ, List, map, Option, Some, None}
use Rattle.std.specs.declared.alloc.Global.{Global}
use Rattle.std.specs.declared.rc.Rc.{Rc}
use Rattle.std.specs.declared.vec.Vec.{Vec}
use Rattle.hushlang.specs.Tree as tree
use Rattle.hushlang.specs.declared.tree.Piece.{Piece}
use Rattle.hushlang.specs.declared.tree.Piece.TheVariants as pieces
use Rattle.hushlang.specs.declared.tree.Word.{Word}

abbrev pub piece : Piece → tree.Piece
piece (pieces.Bytes bytes) = tree.Bytes bytes.items
piece pieces.Mark = tree.Mark
piece (pieces.Var name split) = tree.Var name.items split
piece pieces.Status = tree.Status

abbrev pub word : Word → tree.Word
word w = map piece w.pieces.items

-- fields that are shared
abbrev pub fields_in : Rc (Vec (Vec ℕ Global) Global) Global → List (List ℕ)
fields_in fields = map (λ field. field.items) fields.value.items

-- fields that may be known
abbrev pub known : Option (Rc (Vec (Vec ℕ Global) Global) Global) → Option (List (List ℕ))
known None = None
known (Some fields) = Some (fields_in fields)
