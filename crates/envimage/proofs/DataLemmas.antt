-- The texts of the data, by the first NUL and the first `=`.
use Rattle.std.proofs.Common.{◌≡◌, ℕ, zero, suc, ◌+◌, ◌<◌, true, false, inl, inr, List, [], ◌∷◌, length, get_or, take, drop, None, Some, refl, sym, ap, ◌∙◌, arith, add-one}
use Rattle.std.specs.List.{position, list_any}
use Rattle.std.proofs.lemmas.List.Folds.{list_any_at}
use Rattle.std.proofs.lemmas.List.Quantifiers.{position-Some}
use Rattle.std.proofs.lemmas.Bool.{cases_Bool, false≢true, or_parts}
use Rattle.text.proofs.SearchLemmas.{position-none}
use Rattle.text.specs.Words.{is_equals, is_nul}
use Rattle.envimage.specs.Data.{texts_of, texts_fault}
use Rattle.envimage.specs.declared.content.DataError.TheVariants.{NoEquals, EmptyName}

-- without a NUL, no text ends
texts_of-none : (bytes : List ℕ) → list_any is_nul bytes ≡ false → texts_of bytes ≡ []
texts_of-none [] e = refl
texts_of-none (b ∷ bs) e =
    elim (cases_Bool (is_nul b)) [
      | inl stands ↦ let t : list_any is_nul (b ∷ bs) ≡ true = rw stands refl in absurd (false≢true (sym e ∙ t))
      | inr other ↦ let t : list_any is_nul bs ≡ false = rw other at e in rw (other, texts_of-none bs t) refl
    ]

-- the first NUL ends the first text
texts_of-at : (bytes : List ℕ) (at : ℕ) → at < length bytes → is_nul (get_or bytes at 0) ≡ true → ((k : ℕ) → k < at → is_nul (get_or bytes k 0) ≡ false) → texts_of bytes ≡ take at bytes ∷ texts_of (drop (suc at) bytes)
texts_of-at [] at h e f = absurd (omega arith)
texts_of-at (b ∷ bs) zero h e f = rw e refl
texts_of-at (b ∷ bs) (suc at) h e f =
    rw (f 0 (omega arith), texts_of-at bs at (omega arith) e (λ k l. f (suc k) (omega arith))) refl

pub texts_of-cut : (bytes : List ℕ) (at : ℕ) → position is_nul bytes ≡ Some at → texts_of bytes ≡ take at bytes ∷ texts_of (drop (at + 1) bytes)
texts_of-cut bytes at e =
    let found = position-Some is_nul bytes at 0 e in
    rw add-one (texts_of-at bytes at found.0 found.1 found.2)

pub texts_of-uncut : (bytes : List ℕ) → position is_nul bytes ≡ None → texts_of bytes ≡ []
texts_of-uncut bytes e = texts_of-none bytes (position-none is_nul bytes e)

-- the first `=` of a text, and what is wrong there
pub texts_fault-none : (at : ℕ) (text : List ℕ) (texts : List (List ℕ)) → (length text ≡ 0 → ⊥) → position is_equals text ≡ None → texts_fault at (text ∷ texts) ≡ Some (NoEquals at)
texts_fault-none at [] texts some e = absurd (some refl)
texts_fault-none at (b ∷ bs) texts some e =
    let none = or_parts (is_equals b) (list_any is_equals bs) (position-none is_equals (b ∷ bs) e) in
    let head : is_equals b ≡ false = none.0 in
    let tail : list_any is_equals bs ≡ false = none.1 in
    rw (head, tail) refl

pub texts_fault-front : (at : ℕ) (text : List ℕ) (texts : List (List ℕ)) → position is_equals text ≡ Some 0 → texts_fault at (text ∷ texts) ≡ Some (EmptyName at)
texts_fault-front at [] texts e = let found = position-Some is_equals [] 0 0 e in absurd (omega (arith, found.0))
texts_fault-front at (b ∷ bs) texts e =
    let found = position-Some is_equals (b ∷ bs) 0 0 e in
    let head : is_equals b ≡ true = found.1 in
    rw head refl

pub texts_fault-more : (at k : ℕ) (text : List ℕ) (texts : List (List ℕ)) → position is_equals text ≡ Some k → (k ≡ 0 → ⊥) → texts_fault at (text ∷ texts) ≡ texts_fault (at + (length text + 1)) texts
texts_fault-more at k [] texts e some =
    let found = position-Some is_equals [] k 0 e in absurd (omega (arith, found.0))
texts_fault-more at zero (b ∷ bs) texts e some = absurd (some refl)
texts_fault-more at (suc k) (b ∷ bs) texts e some =
    let found = position-Some is_equals (b ∷ bs) (suc k) 0 e in
    let head : is_equals b ≡ false = found.2 0 (omega arith) in
    let tail : list_any is_equals bs ≡ true = list_any_at is_equals bs k 0 (omega (arith, found.0)) found.1 in
    let next : at + (length bs + 2) ≡ at + (length (b ∷ bs) + 1) = omega arith in
    rw (head, tail) (ap (λ n. texts_fault n texts) next)

-- the empty text ends the data
pub texts_fault-empty : (at : ℕ) (text : List ℕ) (texts : List (List ℕ)) → length text ≡ 0 → texts_fault at (text ∷ texts) ≡ None
texts_fault-empty at [] texts e = refl
texts_fault-empty at (b ∷ bs) texts e = absurd (omega (arith, e))

pub ruleset faults = (texts_fault-none, texts_fault-front, texts_fault-more, texts_fault-empty)
