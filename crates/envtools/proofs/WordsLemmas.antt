-- The words of a value.
use Rattle.std.proofs.Common.{◌≡◌, ℕ, ◌+◌, ◌<◌, Bool, true, false, not, get_or, length, map, take, List, [], ◌∷◌, refl, sym, ap, ◌∙◌}
use Rattle.std.specs.List.{list_all}
use Rattle.std.proofs.lemmas.List.Folds.{list_all-map, list_all_more, list_all_at, list_any-append}
use Rattle.std.proofs.lemmas.Bool.{and_parts, not-true}
use Rattle.text.specs.Words.{has_nul, is_nul, joined_words}
use Rattle.envtools.specs.Environment.{is_value, are_values}

-- words without NUL are joined to a value without NUL
without_nul : (words : List (List ℕ)) → list_all is_value words ≡ true → has_nul (joined_words words) ≡ false
without_nul [] e = refl
without_nul (w ∷ []) e = not-true _ (and_parts (is_value w) true e).0
without_nul (w ∷ v ∷ ws) e =
    let parts = and_parts (is_value w) (list_all is_value (v ∷ ws)) e in
    let first : has_nul w ≡ false = not-true _ parts.0 in
    let rest : has_nul (joined_words (v ∷ ws)) ≡ false = without_nul (v ∷ ws) parts.1 in
    list_any-append is_nul w (32 ∷ joined_words (v ∷ ws)) ∙ rw (first, rest) refl

pub is_value-joined : (words : List (List ℕ)) → are_values words ≡ true → is_value (joined_words words) ≡ true
is_value-joined words e = ap not (without_nul words e)

-- each word, one after another
module _ {X : Type 0} (f : X → List ℕ) (words : List X) (i : ℕ) (d : X) (here : i < length words) where
  pub are_values-next : are_values (map f (take i words)) ≡ true → is_value (f (get_or words i d)) ≡ true → are_values (map f (take (i + 1) words)) ≡ true
  are_values-next before this =
      let p : X → Bool = λ w. is_value (f w) in
      let so_far : list_all p (take i words) ≡ true = sym (list_all-map is_value f (take i words)) ∙ before in
      list_all-map is_value f (take (i + 1) words) ∙ (list_all_more p words i d here ∙ rw (so_far, this) refl)

  pub are_values-not : is_value (f (get_or words i d)) ≡ false → are_values (map f words) ≡ false
  are_values-not this = list_all-map is_value f words ∙ list_all_at (λ w. is_value (f w)) words i d here this
