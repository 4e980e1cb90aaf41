-- A text that is a script.
use Rattle.std.specs.Prelude.{ℕ, List}
use Rattle.hushlang.specs.Texts.{IsTreeOf}
use Rattle.hushlang.specs.Tree.{Script}

-- some tree is that of the text
abbrev pub HasTree : List ℕ → Type 0
HasTree text = (tree : Script) × IsTreeOf text tree
