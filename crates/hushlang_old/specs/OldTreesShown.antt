-- What the code's tree on the way says.
use Rattle.std.specs.Prelude.{◌≡◌, ℕ, Bool, true, false, List, [], ◌++◌, map, drop, Option, Some, None}
use Rattle.std.specs.Borrow.{Bor}
use Rattle.hushlang.specs.WordPieces.{in_piece}
use Rattle.hushlang_uboot.specs.NestsShown as nests
use Rattle.hushlang_old.specs.OldTokensShown as tokens
use Rattle.hushlang_old.specs.OldTokens as words
use Rattle.hushlang_old.specs.OldTrees as says
use Rattle.hushlang_old.specs.declared.building.Building.{Building}

-- a word is an assignment, and these are its name and what is after its `=` in its first bytes
abbrev pub IsCutAtEquals : words.FoundWord → Option (Bor (List ℕ) × Bor (List ℕ)) → Type 0
IsCutAtEquals word None = says.assignment word ≡ None
IsCutAtEquals word (Some halves) =
    says.assignment word ≡ Some (halves.0.now, in_piece halves.1.now ++ drop 1 word.pieces)

-- whether a part of a text is followed, and what is built then
abbrev pub when : (followed : Bool) → says.Building → Option says.Building
when true b = Some b
when false b = None

abbrev pub building : Building → says.Building
building b = record {
  newer = b.newer;
  nest = nests.nest b.nest;
  separated = b.separated;
  words = map tokens.word b.words.items;
  assigning = b.assigning;
  behind = b.behind;
  closed = b.closed;
  nameless = b.nameless;
  spoilt = b.spoilt;
  misname = b.misname.items;
}

abbrev pub without_words : says.Building → says.Building
without_words b = record b { words = []; assigning = false }
