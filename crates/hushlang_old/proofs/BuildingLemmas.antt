-- The words that are on the way.
use Rattle.std.proofs.Common.{◌≡◌, List, map}
use Rattle.std.specs.List.{list_all}
use Rattle.std.proofs.lemmas.List.Folds.{list_all-map}
use Rattle.hushlang_old.specs.OldTrees as says
use Rattle.hushlang_old.specs.OldTokensShown as tokens
use Rattle.hushlang_old.specs.declared.old_tokens.FoundWord.{FoundWord}

pub all_found : (words : List FoundWord) → list_all says.is_constant_word (map tokens.word words) ≡ list_all (λ w. says.is_constant_word (tokens.word w)) words
all_found words = list_all-map says.is_constant_word tokens.word words
