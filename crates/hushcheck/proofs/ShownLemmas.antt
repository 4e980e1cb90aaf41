-- What is shown of bytes.
use Rattle.std.proofs.Common.{◌≡◌, ℕ, List, [], ◌∷◌, length, refl}
use Rattle.std.specs.List.{flat_map}
use Rattle.text.specs.Escapes.{word_escaped, word_form}

-- a name that is not empty
pub some_word : (name : List ℕ) → (length name ≡ 0 → ⊥) → word_form name ≡ flat_map word_escaped name
some_word [] some = absurd (some refl)
some_word (byte ∷ bytes) some = refl
