-- Words, each after a space.
use Rattle.std.proofs.Common.{◌≡◌, ℕ, List, [], ◌∷◌, ◌++◌, map, ap, append-nil}
use Rattle.std.specs.List.{flat_map}
use Rattle.std.specs.declared.alloc.Global.{Global}
use Rattle.std.specs.declared.vec.Vec.{Vec}
use Rattle.text.specs.Escapes.{word_form}
use Rattle.text.specs.TextsShown.{bytes_of_words, spaced}
use Rattle.text.specs.Words.{joined_words}

-- a word, and others after it, are all joined by spaces
pub joined-spaced : (w : Vec ℕ Global) (ws : List (Vec ℕ Global)) → word_form w.items ++ flat_map spaced ws ≡ joined_words (map word_form (bytes_of_words (w ∷ ws)))
joined-spaced w [] = append-nil (word_form w.items)
joined-spaced w (v ∷ ws) = ap (λ t. word_form w.items ++ (32 ∷ t)) (joined-spaced v ws)
