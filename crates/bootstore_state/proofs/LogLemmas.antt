-- Commands of a log that are looked for one by one.
use Rattle.std.proofs.Common.{◌≡◌, ◌∙◌, ℕ, ◌+◌, ◌<◌, ◌≤◌, min, Bool, true, false, ◌&&◌, ◌||◌, List, [], ◌∷◌, map, length, drop, take, get_or, refl, sym, ap}
use Rattle.std.proofs.Math.ListN.{drop_of_length-le}
use Rattle.std.proofs.lemmas.List.{take_min, take-map, length-map}
use Rattle.std.specs.Cmp.Lexicographic.{pointwise}
use Rattle.std.specs.List.{list_any}
use Rattle.std.specs.Prelude.{Vec}
use Rattle.std.specs.Str.{bytes_eq}
use Rattle.std.specs.declared.alloc.Global.{Global}
use Rattle.hushlang.proofs.ExpandLemmas.{drop_next}
use Rattle.text.specs.TextsShown.{bytes_of_words}
use Rattle.rehearse_terms.specs.State.{Text, LoggedCommand, same_words}

-- words that are compared one by one
words_compared : (vs ws : List (Vec ℕ Global)) → pointwise (λ (v w : Vec ℕ Global). bytes_eq v.items w.items) vs ws ≡ same_words (bytes_of_words vs) (bytes_of_words ws)
words_compared [] [] = refl
words_compared [] (w ∷ ws) = refl
words_compared (v ∷ vs) [] = refl
words_compared (v ∷ vs) (w ∷ ws) = ap (λ (b : Bool). bytes_eq v.items w.items && b) (words_compared vs ws)

-- the first words, as many as there are
pub first_words : (count : ℕ) (start words : List (Vec ℕ Global)) → count ≡ min (length start) (length words) → bytes_of_words (take count words) ≡ take (length (bytes_of_words start)) (bytes_of_words words)
first_words count start words e =
    let items : Vec ℕ Global → Text = λ w. w.items in
    sym (take-map items count words)
    ∙ ap (λ (n : ℕ). take n (bytes_of_words words)) (e ∙ (λ i. min (sym (length-map start items) i) (sym (length-map words items) i)))
    ∙ take_min (length (bytes_of_words start)) (bytes_of_words words)

pub begins_so : (b : Bool) (count : ℕ) (start words : List (Vec ℕ Global)) → b ≡ pointwise (λ (v w : Vec ℕ Global). bytes_eq v.items w.items) start (take count words) → count ≡ min (length start) (length words)
    → b ≡ same_words (bytes_of_words start) (take (length (bytes_of_words start)) (bytes_of_words words))
begins_so b count start words is e = is ∙ words_compared start (take count words) ∙ ap (same_words (bytes_of_words start)) (first_words count start words e)

-- ---- one that passes a test

module _ (test : LoggedCommand → Bool) (log : List LoggedCommand) (i : ℕ) where
  any_from : (e : LoggedCommand) → i < length log → e ≡ get_or log i e → list_any test (drop i log) ≡ (test e || list_any test (drop (i + 1) log))
  any_from e within is = ap (list_any test) (drop_next log i e within is)

  pub any_here : (e : LoggedCommand) → i < length log → e ≡ get_or log i e → list_any test (drop i log) ≡ list_any test log → test e ≡ true → true ≡ list_any test log
  any_here e within is before here = sym (any_from e within is ∙ ap (λ (b : Bool). b || list_any test (drop (i + 1) log)) here) ∙ before

  pub any_later : (e : LoggedCommand) → i < length log → e ≡ get_or log i e → list_any test (drop i log) ≡ list_any test log → test e ≡ false → list_any test (drop (i + 1) log) ≡ list_any test log
  any_later e within is before here = sym (any_from e within is ∙ ap (λ (b : Bool). b || list_any test (drop (i + 1) log)) here) ∙ before

  pub any_nowhere : length log ≤ i → list_any test (drop i log) ≡ list_any test log → false ≡ list_any test log
  any_nowhere past before = sym (ap (list_any test) (drop_of_length-le log past)) ∙ before
