-- A word that is given to a rehearsal, as a listing prints it. Ours.
use Rattle.std.specs.Prelude.{◌==◌, [], ◌∷◌, codes, if◌then◌else◌}
use Rattle.text.specs.Bytes as ascii
use Rattle.rehearse_terms.specs.State.{Text}

-- The digits of a printed word: a dot has none, and any other text is its own digits. The empty text spells no word, so
-- it gives digits that no word has.
abbrev pub digits_in : Text → Text
digits_in [] = codes "."
digits_in (b ∷ []) = if b == ascii.dot then [] else b ∷ []
digits_in (b ∷ c ∷ more) = b ∷ c ∷ more
