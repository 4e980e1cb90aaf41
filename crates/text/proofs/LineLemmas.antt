-- A text that is split at its first separator.
use Rattle.std.proofs.Common.{◌≡◌, ℕ, zero, suc, ◌+◌, ◌-◌, ◌<◌, Bool, true, false, List, [], ◌∷◌, length, get_or, take, drop, None, Some, refl, sym, ap, ◌∙◌, arith, add-one, inl, inr}
use Rattle.std.proofs.lemmas.Bool.{false≢true, cases_Bool}
use Rattle.std.proofs.lemmas.List.{take_rest}
use Rattle.std.proofs.lemmas.List.Quantifiers.{position-Some}
use Rattle.std.specs.List.{position, list_any, slice_split, enumerate_from}
use Rattle.text.specs.Lines.{is_newline}
use Rattle.text.proofs.SearchLemmas.{position-none}

module _ (p : ℕ → Bool) where
  split-none : (text : List ℕ) → list_any p text ≡ false → slice_split p text ≡ text ∷ []
  split-none [] e = refl
  split-none (b ∷ bs) e =
      elim (cases_Bool (p b)) [
        | inl stands ↦ let t : list_any p (b ∷ bs) ≡ true = rw stands refl in absurd (false≢true (sym e ∙ t))
        | inr other ↦ let t : list_any p bs ≡ false = rw other at e in rw (other, split-none bs t) refl
      ]

  split-at : (text : List ℕ) (at : ℕ) → at < length text → p (get_or text at 0) ≡ true → ((k : ℕ) → k < at → p (get_or text k 0) ≡ false) → slice_split p text ≡ take at text ∷ slice_split p (drop (suc at) text)
  split-at [] at h e f = absurd (omega arith)
  split-at (b ∷ bs) zero h e f = rw e refl
  split-at (b ∷ bs) (suc at) h e f =
      rw (f 0 (omega arith), split-at bs at (omega arith) e (λ k l. f (suc k) (omega arith))) refl

  -- the first separator ends the first part
  pub slice_split-found : (text : List ℕ) (at : ℕ) → position p text ≡ Some at → slice_split p text ≡ take at text ∷ slice_split p (drop (at + 1) text)
  slice_split-found text at e =
      let found = position-Some p text at 0 e in
      rw add-one (split-at text at found.0 found.1 found.2)

  pub slice_split-unfound : (text : List ℕ) → position p text ≡ None → slice_split p text ≡ text ∷ []
  slice_split-unfound text e = split-none text (position-none p text e)

-- the first line, and the lines after it
pub lines-found : (number : ℕ) (text : List ℕ) (at : ℕ) → position is_newline text ≡ Some at
    → enumerate_from number (slice_split is_newline text) ≡ (number, take at text) ∷ enumerate_from (number + 1) (slice_split is_newline (take (length text - (at + 1)) (drop (at + 1) text)))
lines-found number text at e =
    ap (enumerate_from number) (slice_split-found is_newline text at e)
    ∙ ap (λ rest. (number, take at text) ∷ enumerate_from (number + 1) (slice_split is_newline rest)) (sym (take_rest text (at + 1)))

pub lines-unfound : (number : ℕ) (text : List ℕ) → position is_newline text ≡ None → enumerate_from number (slice_split is_newline text) ≡ (number, text) ∷ []
lines-unfound number text e = ap (enumerate_from number) (slice_split-unfound is_newline text e)
