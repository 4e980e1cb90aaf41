-- Worked examples of outcome words, computed: how many device commands of them failed.
use Rattle.std.proofs.Common.{◌≡◌, [], ◌∷◌, refl, map}
use Rattle.rehearse_terms.specs.Outcomes.{Success, Failure, failures}

counted : map failures ([] ∷ (Success ∷ []) ∷ (Failure ∷ Success ∷ Failure ∷ []) ∷ []) ≡ 0 ∷ 0 ∷ 2 ∷ []
counted = refl
