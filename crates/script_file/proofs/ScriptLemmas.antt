-- A header with zeros in the place of its checksum.
use Rattle.std.proofs.Common.{◌≡◌, ℕ, List, [], ◌∷◌, length, refl, arith, slice_set}
use Rattle.script_file.specs.ScriptFiles.{blanked}

pub blanks : (header : List ℕ) → length header ≡ 64
    → slice_set (slice_set (slice_set (slice_set header 4 0) 5 0) 6 0) 7 0 ≡ blanked header
blanks (a ∷ b ∷ c ∷ d ∷ e ∷ f ∷ g ∷ h ∷ rest) whole = refl
blanks [] whole = absurd (omega (arith, whole))
blanks (a ∷ []) whole = absurd (omega (arith, whole))
blanks (a ∷ b ∷ []) whole = absurd (omega (arith, whole))
blanks (a ∷ b ∷ c ∷ []) whole = absurd (omega (arith, whole))
blanks (a ∷ b ∷ c ∷ d ∷ []) whole = absurd (omega (arith, whole))
blanks (a ∷ b ∷ c ∷ d ∷ e ∷ []) whole = absurd (omega (arith, whole))
blanks (a ∷ b ∷ c ∷ d ∷ e ∷ f ∷ []) whole = absurd (omega (arith, whole))
blanks (a ∷ b ∷ c ∷ d ∷ e ∷ f ∷ g ∷ []) whole = absurd (omega (arith, whole))
