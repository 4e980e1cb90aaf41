-- Words, joined by single spaces.
use Rattle.std.proofs.Common.{◌≡◌, ℕ, zero, suc, ◌+◌, ◌<◌, get_or, length, map, take, List, [], ◌∷◌, ◌++◌, refl, sym, ap, ◌∙◌, arith, add-one, append_assoc}
use Rattle.text.specs.Words.{joined_words}

abbrev joined_behind : List (List ℕ) → List ℕ → List ℕ
joined_behind [] word = word
joined_behind (w ∷ ws) word = (joined_words (w ∷ ws) ++ 32 ∷ []) ++ word

joined-snoc : (words : List (List ℕ)) (word : List ℕ) → joined_words (words ++ word ∷ []) ≡ joined_behind words word
joined-snoc [] word = refl
joined-snoc (w ∷ []) word = sym (append_assoc w (32 ∷ []) word)
joined-snoc (w ∷ v ∷ ws) word =
    ap (λ t. w ++ 32 ∷ t) (joined-snoc (v ∷ ws) word)
    ∙ (sym (append_assoc w (32 ∷ (joined_words (v ∷ ws) ++ 32 ∷ [])) word)
    ∙ ap (λ t. t ++ word) (sym (append_assoc w (32 ∷ joined_words (v ∷ ws)) (32 ∷ []))))

module _ {X : Type 0} (f : X → List ℕ) where
  map_take-suc : (xs : List X) (i : ℕ) (d : X) → i < length xs → map f (take (suc i) xs) ≡ map f (take i xs) ++ f (get_or xs i d) ∷ []
  map_take-suc [] i d h = absurd (omega arith)
  map_take-suc (x ∷ xs) zero d h = refl
  map_take-suc (x ∷ xs) (suc i) d h = ap (λ t. f x ∷ t) (map_take-suc xs i d (omega arith))

  joined-at : (xs : List X) (i : ℕ) (d : X) → i < length xs → joined_words (map f (take (i + 1) xs)) ≡ joined_behind (map f (take i xs)) (f (get_or xs i d))
  joined-at xs i d h = rw add-one (ap joined_words (map_take-suc xs i d h) ∙ joined-snoc (map f (take i xs)) (f (get_or xs i d)))

  pub joined-first : (xs : List X) (i : ℕ) (d : X) → i < length xs → i ≡ 0 → joined_words (map f (take (i + 1) xs)) ≡ f (get_or xs i d)
  joined-first xs i d h e = joined-at xs i d h ∙ ap (λ n. joined_behind (map f (take n xs)) (f (get_or xs i d))) e

  later : (xs : List X) (i : ℕ) (word : List ℕ) → i < length xs → 0 < i → joined_behind (map f (take i xs)) word ≡ (joined_words (map f (take i xs)) ++ 32 ∷ []) ++ word
  later [] i word h some = absurd (omega arith)
  later (x ∷ xs) zero word h some = absurd (omega arith)
  later (x ∷ xs) (suc i) word h some = refl

  pub joined-later : (xs : List X) (i : ℕ) (d : X) → i < length xs → 0 < i → joined_words (map f (take (i + 1) xs)) ≡ (joined_words (map f (take i xs)) ++ 32 ∷ []) ++ f (get_or xs i d)
  joined-later xs i d h some = joined-at xs i d h ∙ later xs i (f (get_or xs i d)) h some
