-- What the code's halves of an assignment say.
use Rattle.std.specs.Prelude.{◌≡◌, ℕ, false, List, ◌++◌, map, drop, Option, Some, None}
use Rattle.std.specs.Borrow.{Bor}
use Rattle.hushlang.specs.WordPieces.{in_piece}
use Rattle.hushlang_uboot.specs.ReadBytes.{unescaped}
use Rattle.hushlang_modern.specs.ModernTokens.{FoundWord}
use Rattle.hushlang_modern.specs.ModernWords as says

-- a word is an assignment, and these are its name and what is after its `=` in its first bytes
abbrev pub IsCutAtEquals : FoundWord → Option (Bor (List ℕ) × Bor (List ℕ)) → Type 0
IsCutAtEquals word None = says.assignment word ≡ None
IsCutAtEquals word (Some halves) =
    says.assignment word
    ≡ Some (halves.0.now, in_piece (unescaped false halves.1.now) ++ map says.unescaped_piece (drop 1 word.pieces))
