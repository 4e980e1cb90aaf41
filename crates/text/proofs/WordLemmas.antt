-- The first word of a line.
use Rattle.std.proofs.Common.{◌≡◌, ℕ, suc, ◌-◌, ◌≤◌, Bool, true, false, not, eqb, List, [], ◌∷◌, length, filter, take, drop, nat_lt, refl, sym, ap, subst, ◌∙◌, arith, inl, inr}
use Rattle.std.proofs.lemmas.Bool.{cases_Bool, cases_lt}
use Rattle.std.proofs.lemmas.Bool.Decides.{nat_tests}
use Rattle.std.proofs.lemmas.List.{take_rest}
use Rattle.std.proofs.lemmas.List.Sums.{prefix_len-le-length}
use Rattle.std.specs.List.{slice_split, onto_first, position, position_or_len}
use Rattle.std.specs.Prelude.{unwrap_or}
use Rattle.text.specs.Words.{is_blank, words_of, cut_front}

-- blanks at the start make no word
words_of-blank : (b : ℕ) (bs : List ℕ) → is_blank b ≡ true → words_of (b ∷ bs) ≡ words_of bs
words_of-blank b bs e = rw e refl

words_of-cut_front : (line : List ℕ) → words_of (cut_front is_blank line) ≡ words_of line
words_of-cut_front [] = refl
words_of-cut_front (b ∷ bs) =
    elim (cases_Bool (is_blank b)) [
      | inl blank ↦ rw blank (words_of-cut_front bs)
      | inr other ↦ let same : cut_front is_blank (b ∷ bs) ≡ b ∷ bs = rw other refl in ap words_of same
    ]

pub no_word : (line : List ℕ) → length (cut_front is_blank line) ≡ 0 → words_of line ≡ []
no_word line e = sym (words_of-cut_front line) ∙ ap words_of (nothing (cut_front is_blank line) e)
  where
    nothing : (xs : List ℕ) → length xs ≡ 0 → xs ≡ []
    nothing [] e = refl
    nothing (x ∷ xs) e = absurd (omega (arith, e))

abbrev some_words : List (List ℕ) → List (List ℕ)
some_words = filter (λ word. not (eqb (length word) 0))

-- the parts after the first
abbrev later_parts : List ℕ → List (List ℕ)
later_parts [] = []
later_parts (b ∷ bs) = slice_split is_blank bs

-- how many bytes are before the first blank
len-blank : (b : ℕ) (bs : List ℕ) → is_blank b ≡ true → position_or_len is_blank (b ∷ bs) ≡ 0
len-blank b bs e = rw e refl

len-other : (b : ℕ) (bs : List ℕ) → is_blank b ≡ false → position_or_len is_blank (b ∷ bs) ≡ suc (position_or_len is_blank bs)
len-other b bs e = rw e (omega arith)

-- the first part ends before the first blank
first_part : (line : List ℕ) → slice_split is_blank line ≡ take (position_or_len is_blank line) line ∷ later_parts (drop (position_or_len is_blank line) line)
first_part [] = refl
first_part (b ∷ bs) =
    elim (cases_Bool (is_blank b)) [
      | inl blank ↦ rw (len-blank b bs blank, blank) refl
      | inr other ↦ rw (len-other b bs other, other) (ap (onto_first b) (first_part bs))
    ]

-- the blank before the rest makes no word
rest_words : (line : List ℕ) → words_of (drop (position_or_len is_blank line) line) ≡ some_words (later_parts (drop (position_or_len is_blank line) line))
rest_words [] = refl
rest_words (b ∷ bs) =
    elim (cases_Bool (is_blank b)) [
      | inl blank ↦ rw (len-blank b bs blank) (words_of-blank b bs blank)
      | inr other ↦ rw (len-other b bs other) (rest_words bs)
    ]

some_words-kept : (b : ℕ) (bs : List ℕ) (parts : List (List ℕ)) → some_words ((b ∷ bs) ∷ parts) ≡ (b ∷ bs) ∷ some_words parts
some_words-kept b bs parts =
    let some : eqb (length (b ∷ bs)) 0 ≡ false = grind (arith, nat_tests) in
    rw some refl

front_word : (b : ℕ) (bs : List ℕ) → is_blank b ≡ false → words_of (b ∷ bs) ≡ take (position_or_len is_blank (b ∷ bs)) (b ∷ bs) ∷ words_of (drop (position_or_len is_blank (b ∷ bs)) (b ∷ bs))
front_word b bs other =
    ap some_words (first_part (b ∷ bs)) ∙ rw (len-other b bs other) (some_words-kept b (take (position_or_len is_blank bs) bs) (later_parts (drop (position_or_len is_blank bs) bs)) ∙ ap (λ words. (b ∷ take (position_or_len is_blank bs) bs) ∷ words) (sym (rest_words bs)))

word_there : (line : List ℕ) → (length (cut_front is_blank line) ≡ 0 → ⊥) →
    words_of (cut_front is_blank line) ≡ take (position_or_len is_blank (cut_front is_blank line)) (cut_front is_blank line) ∷ words_of (drop (position_or_len is_blank (cut_front is_blank line)) (cut_front is_blank line))
word_there [] some = absurd (some refl)
word_there (b ∷ bs) some =
    elim (cases_Bool (is_blank b)) [
      | inl blank ↦ let more : length (cut_front is_blank bs) ≡ 0 → ⊥ = rw blank at some in rw blank (word_there bs more)
      | inr other ↦ rw other (front_word b bs other)
    ]

-- the first word of a line, and the rest of it
pub first_word : (line rest : List ℕ) (len : ℕ) → rest ≡ cut_front is_blank line → (length rest ≡ 0 → ⊥) → len ≡ position_or_len is_blank rest →
    words_of line ≡ take len rest ∷ words_of (take (length rest - len) (drop len rest))
first_word line rest len e some n =
    let P : List ℕ → Type 0 = λ r. length r ≡ 0 → ⊥ in
    let there = word_there line (subst P e some) in
    let at : words_of rest ≡ take (position_or_len is_blank rest) rest ∷ words_of (drop (position_or_len is_blank rest) rest) =
    subst (λ r. words_of r ≡ take (position_or_len is_blank r) r ∷ words_of (drop (position_or_len is_blank r) r)) (sym e) there in
    sym (words_of-cut_front line) ∙ (ap words_of (sym e) ∙ (at ∙ subst (λ k. take (position_or_len is_blank rest) rest ∷ words_of (drop (position_or_len is_blank rest) rest) ≡ take k rest ∷ words_of (take (length rest - k) (drop k rest))) (sym n)
    (ap (λ r. take (position_or_len is_blank rest) rest ∷ words_of r) (sym (take_rest rest (position_or_len is_blank rest))))))

pub no_words : (line rest : List ℕ) → rest ≡ cut_front is_blank line → length rest ≡ 0 → words_of line ≡ []
no_words line rest e none = no_word line (sym (ap length e) ∙ none)

-- the place of the first blank, or the length
pub position-or : (p : ℕ → Bool) (bytes : List ℕ) → unwrap_or (position p bytes) (length bytes) ≡ position_or_len p bytes
position-or p bytes =
    elim (cases_lt (position_or_len p bytes) (length bytes)) [
      | inl found ↦ let below : nat_lt (position_or_len p bytes) (length bytes) ≡ true = grind (arith, nat_tests) in rw below refl
      | inr past ↦ let above : nat_lt (position_or_len p bytes) (length bytes) ≡ false = grind (arith, nat_tests) in
          rw above (omega (arith, past, prefix_len-le-length (λ x. not (p x)) bytes))
    ]

pub position-within : (p : ℕ → Bool) (bytes : List ℕ) → unwrap_or (position p bytes) (length bytes) ≤ length bytes
position-within p bytes = omega (arith, position-or p bytes, prefix_len-le-length (λ x. not (p x)) bytes)

pub ruleset word_ends = (position-or, position-within)

pub ruleset first_words = (no_words, first_word)
