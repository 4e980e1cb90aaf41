-- A text without the bytes at its end that pass a test.
use Rattle.std.proofs.Common.{◌≡◌, ℕ, ◌+◌, ◌-◌, ◌<◌, ◌≤◌, Bool, true, false, List, [], ◌∷◌, ◌++◌, take, get_or, length, refl, sym, ap, ◌∙◌, arith}
use Rattle.std.proofs.lemmas.List.{take_more, take_all}
use Rattle.text.specs.Words.{onto_line, cut_behind}

-- the last of the first bytes of a text
last_of : (text : List ℕ) (len : ℕ) → 0 < len → len ≤ length text → take len text ≡ take (len - 1) text ++ get_or text (len - 1) 0 ∷ []
last_of text len some within =
    let more : len ≡ (len - 1) + 1 = omega arith in
    ap (λ n. take n text) more ∙ take_more text (len - 1) 0 (omega arith)

module _ (p : ℕ → Bool) where
  cut_behind-passing : (text : List ℕ) (b : ℕ) → p b ≡ true → cut_behind p (text ++ b ∷ []) ≡ cut_behind p text
  cut_behind-passing [] b e = rw e refl
  cut_behind-passing (c ∷ cs) b e = ap (onto_line p c) (cut_behind-passing cs b e)

  cut_behind-other : (text : List ℕ) (b : ℕ) → p b ≡ false → cut_behind p (text ++ b ∷ []) ≡ text ++ b ∷ []
  cut_behind-other [] b e = rw e refl
  cut_behind-other (c ∷ []) b e = ap (onto_line p c) (cut_behind-other [] b e)
  cut_behind-other (c ∷ d ∷ cs) b e = ap (onto_line p c) (cut_behind-other (d ∷ cs) b e)

  pub cut_behind-all : (text : List ℕ) → cut_behind p (take (length text) text) ≡ cut_behind p text
  cut_behind-all text = ap (cut_behind p) (take_all (length text) text (omega arith))

  pub cut_behind-step : (text : List ℕ) (len : ℕ) → 0 < len → len ≤ length text → p (get_or text (len - 1) 0) ≡ true → cut_behind p (take len text) ≡ cut_behind p text → cut_behind p (take (len - 1) text) ≡ cut_behind p text
  cut_behind-step text len some within this before =
      sym (ap (cut_behind p) (last_of text len some within) ∙ cut_behind-passing (take (len - 1) text) (get_or text (len - 1) 0) this) ∙ before

  pub cut_behind-stop : (text : List ℕ) (len : ℕ) → 0 < len → len ≤ length text → p (get_or text (len - 1) 0) ≡ false → cut_behind p (take len text) ≡ cut_behind p text → take len text ≡ cut_behind p text
  cut_behind-stop text len some within other before =
      last_of text len some within ∙ (sym (cut_behind-other (take (len - 1) text) (get_or text (len - 1) 0) other) ∙ (sym (ap (cut_behind p) (last_of text len some within)) ∙ before))

  pub cut_behind-none : (text : List ℕ) (len : ℕ) → len ≡ 0 → cut_behind p (take len text) ≡ cut_behind p text → take len text ≡ cut_behind p text
  cut_behind-none text len none before = ap (λ n. take n text) none ∙ (sym (ap (λ n. cut_behind p (take n text)) none) ∙ before)

pub ruleset ends = (cut_behind-all, cut_behind-step, cut_behind-stop, cut_behind-none)
