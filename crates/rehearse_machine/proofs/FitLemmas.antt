-- How many bytes words hold.
use Rattle.std.proofs.Common.{◌≡◌, ℕ, List, [], ◌∷◌, length, refl, ap, ◌∙◌, sym, ◌+◌}
use Rattle.std.specs.Prelude.{Vec}
use Rattle.std.specs.List.{sum_by}
use Rattle.std.specs.declared.alloc.Global.{Global}
use Rattle.std.proofs.lemmas.List.Sums.{sum_by-cons}
use Rattle.text.specs.TextsShown.{bytes_of_words}
use Rattle.hushlang.specs.Expansion.{size}

abbrev pub byte_count : Vec ℕ Global → ℕ
byte_count word = length word.items

pub size_of_words : (words : List (Vec ℕ Global)) → size (bytes_of_words words) ≡ sum_by byte_count words
size_of_words [] = refl
size_of_words (w ∷ ws) =
    sum_by-cons length w.items (bytes_of_words ws) ∙ ap (λ n. length w.items + n) (size_of_words ws) ∙ sym (sum_by-cons byte_count w ws)
