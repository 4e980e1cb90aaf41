use Rattle.std.proofs.Common.{◌≡◌, ◌∙◌, ◌⊎◌, inl, inr, ℕ, List, [], ◌∷◌, Option, Vec, Global, Bor, map, ap, sym, refl}
use Rattle.std.proofs.lemmas.Slice.Zip.{either_empty_from_Zip}
use Rattle.rehearse_boots.specs.Expecting.{value_left}
use Rattle.rehearse_states.specs.RowsShown.{value_shown}
use Rattle.rehearse_boots.proofs.way.value_left.Goals as goal

abbrev left_of : List (Bor (List ℕ)) → List (Option (Vec ℕ Global)) → List ℕ → List ℕ
left_of names values name = value_left (map (λ n. n.now) names) (map value_shown values) name

none_without_values : (names : List (Bor (List ℕ))) (name : List ℕ) → left_of names [] name ≡ []
none_without_values [] name = refl
none_without_values (other ∷ names) name = refl

none_left : (names : List (Bor (List ℕ))) (values : List (Option (Vec ℕ Global))) (name : List ℕ) → (names ≡ []) ⊎ (values ≡ []) → left_of names values name ≡ []
none_left names values name (inl e) = ap (λ (ns : List (Bor (List ℕ))). left_of ns values name) e
none_left names values name (inr e) = ap (λ (vs : List (Option (Vec ℕ Global))). left_of names vs name) e ∙ none_without_values names name

pub returns : goal.returns
returns c =
    sym (none_left _ _ c.args.name.now (either_empty_from_Zip c.loop-other.other-iterator c.next.new.self c.next.result c.in-None.is c.next.ensures.steps)) ∙ c.loop-other.invariant
