-- The command that is on the way.
use Rattle.std.proofs.Common.{◌≡◌, refl, ℕ, true, false, List, [], ◌∷◌, map, length, nat_eq}
use Rattle.hushlang.specs.Tree as tree
use Rattle.std.proofs.lemmas.Bool.{eqb-true}
use Rattle.hushlang_modern.specs.ModernTrees as says
use Rattle.hushlang_modern.specs.ModernTokensShown as tokens
use Rattle.hushlang_modern.specs.ModernWords.{word_of}
use Rattle.hushlang_modern.specs.declared.modern_tokens.FoundWord.{FoundWord}

pub some_words : (words : List FoundWord) → nat_eq (length words) 0 ≡ false → (values : List (List ℕ × tree.Word)) → says.command_by values (map tokens.word words) ≡ tree.Simple (map word_of (map tokens.word words))
some_words [] some values = absurd (cc)
some_words (word ∷ words) some values = refl

pub no_words : (words : List FoundWord) → nat_eq (length words) 0 ≡ true → (values : List (List ℕ × tree.Word)) → says.command_by values (map tokens.word words) ≡ tree.Assign values
no_words [] none values = refl
no_words (word ∷ words) none values = let long : length (word ∷ words) ≡ 0 = eqb-true (length (word ∷ words)) 0 none in absurd (cc)

pub ruleset commands = (some_words, no_words)
