-- Worked examples of words as they are printed, computed.
use Rattle.std.proofs.Common.{◌≡◌, refl, [], ◌∷◌, codes}
use Rattle.text.specs.Escapes.{text_form, word_form}

spaced_word : word_form (codes "a b") ≡ codes "a\\x20b"
spaced_word = refl

spaced_text : text_form (codes "a b") ≡ codes "a b"
spaced_text = refl

empty_word : word_form [] ≡ codes "\\e"
empty_word = refl

backslash_word : word_form (codes "\\") ≡ codes "\\\\"
backslash_word = refl

odd_word : word_form (10 ∷ 127 ∷ 195 ∷ []) ≡ codes "\\n\\x7f\\xc3"
odd_word = refl
