-- The laws of the tree that is computed.
use Rattle.std.specs.Prelude.{◌≡◌, ◌↔◌, ℕ, List, Some, None}
use Rattle.hushlang.specs.Texts.{IsTreeOf, HasNoTree}
use Rattle.hushlang.specs.Tree.{Script, IsProper}
use Rattle.hushlang.specs.Trees.{tree_of}

-- the tree of a text that is computed is the one that the language gives it
abbrev pub TreesAreRead : Type 0
TreesAreRead = (text : List ℕ) (tree : Script) → (tree_of text ≡ Some tree) ↔ IsTreeOf text tree

-- and a text has no tree if the language gives it none
abbrev pub RefusedTexts : Type 0
RefusedTexts = (text : List ℕ) → (tree_of text ≡ None) ↔ HasNoTree text

-- its conditions and bodies hold commands, and its `if`s have conditions
abbrev pub TreesAreProper : Type 0
TreesAreProper = (text : List ℕ) (tree : Script) → tree_of text ≡ Some tree → IsProper tree
