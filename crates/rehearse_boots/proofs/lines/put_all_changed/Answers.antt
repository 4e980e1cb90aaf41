use Rattle.std.proofs.Common.{◌≡◌, ◌∙◌, ◌++◌, ◌⊎◌, inl, inr, ℕ, List, [], ◌∷◌, Vec, Global, Bor, map, ap, append-nil, sym, refl}
use Rattle.std.proofs.lemmas.Slice.Zip.{either_empty_from_Zip}
use Rattle.text.specs.TextsShown.{bytes_of_words}
use Rattle.rehearse_boots.specs.BootLines.{changed_lines}
use Rattle.rehearse_boots.proofs.lines.put_all_changed.Goals as goal

-- where nothing is left of the names, or of the values
none_without_values : (names : List (Bor (List ℕ))) (kept : List (Vec ℕ Global)) → changed_lines (map (λ n. n.now) names) [] (bytes_of_words kept) ≡ []
none_without_values [] kept = refl
none_without_values (name ∷ names) kept = refl

none_left : (names : List (Bor (List ℕ))) (first kept : List (Vec ℕ Global)) → (names ≡ []) ⊎ (first ≡ []) → changed_lines (map (λ n. n.now) names) (bytes_of_words first) (bytes_of_words kept) ≡ []
none_left names first kept (inl e) = ap (λ (ns : List (Bor (List ℕ))). changed_lines (map (λ n. n.now) ns) (bytes_of_words first) (bytes_of_words kept)) e
none_left names first kept (inr e) = ap (λ (vs : List (Vec ℕ Global)). changed_lines (map (λ n. n.now) names) (bytes_of_words vs) (bytes_of_words kept)) e ∙ none_without_values names kept

pub returns : goal.returns
returns c =
    let empty = either_empty_from_Zip c.loop-name.name-iterator c.next.new.self c.next.result c.in-None.is c.next.ensures.steps in
    sym (ap (λ (t : List ℕ). c.loop-name.text.items ++ t) (none_left _ _ c.loop-name.left.now empty) ∙ append-nil c.loop-name.text.items) ∙ c.loop-name.invariant
