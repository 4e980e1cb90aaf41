-- Bytes that print as they are are written together, and other bytes one by one.
use Rattle.std.proofs.Common.{◌≡◌, ℕ, zero, suc, ◌+◌, ◌-◌, ◌<◌, ◌≤◌, Bool, ◌||◌, true, false, not, List, [], ◌∷◌, ◌++◌, length, get_or, take, drop, Result, None, Some, refl, sym, ap, ◌∙◌, append_assoc, arith, add-one, inl, inr, subst}
use Rattle.std.specs.Prelude.{nat_eq, ◌==◌}
use Rattle.std.specs.Bool.{OnTrue}
use Rattle.std.specs.List.{flat_map, position, position_or_len, prefix_len, list_any}
use Rattle.std.proofs.lemmas.List.{take-append-drop, drop-drop, length-append, length-drop}
use Rattle.std.proofs.lemmas.List.Folds.{list_any-append}
use Rattle.std.proofs.lemmas.Bool.Decides.{nat_tests}
use Rattle.std.proofs.lemmas.Bool.{false≢true, cases_Bool}
use Rattle.std.proofs.lemmas.List.Quantifiers.{position-Some}
use Rattle.output.specs.Sink.{Sink, BrokeOff}
use Rattle.text.specs.Escapes.{escaped, text_form, word_escaped, word_form}
use Rattle.text.proofs.SearchLemmas.{position-none}
use Rattle.rehearse_records.specs.LinePieces.{form_of, stands}
use Rattle.rehearse_records.specs.declared.line_pieces.Form.{Form}
use Rattle.rehearse_records.specs.declared.line_pieces.Form.TheVariants.{Text as AsText, Word as AsWord}
use Rattle.output.specs.Paging.{Put, Puts}
use Rattle.output.proofs.PageLemmas.{Put-none, Put-append, Breaks-after, Breaks-before, Puts-after, Puts-as, Breaks-as}

module _ (f : ℕ → List ℕ) where
  -- the bytes so far were put
  pub record SoFar (old new : Sink) (before after bytes rest : List ℕ) : Type 0 where
    pub front : List ℕ
    pub joined : front ++ flat_map f rest ≡ flat_map f bytes
    pub put : Put old new before after front

  pub none_yet : (s : Sink) (page bytes : List ℕ) → SoFar s s page page bytes bytes
  none_yet s page bytes = record { front = []; joined = refl; put = Put-none s page }

module _ (f : ℕ → List ℕ) (is_other : ℕ → Bool) (same : (b : ℕ) → is_other b ≡ false → f b ≡ b ∷ []) where
  -- bytes that are all put as they are
  all_same : (bytes : List ℕ) → list_any is_other bytes ≡ false → flat_map f bytes ≡ bytes
  all_same [] h = refl
  all_same (b ∷ bytes) h =
      elim (cases_Bool (is_other b)) [
        | inl stands ↦ let t : list_any is_other (b ∷ bytes) ≡ true = rw stands refl in absurd (false≢true (sym h ∙ t))
        | inr other ↦ let t : list_any is_other bytes ≡ false = rw other at h in rw (same b other, all_same bytes t) refl
      ]

  -- the bytes before the first other byte are put as they are
  first_other : (bytes : List ℕ) (at : ℕ) → at < length bytes → ((k : ℕ) → k < at → is_other (get_or bytes k 0) ≡ false)
      → flat_map f bytes ≡ take at bytes ++ (f (get_or bytes at 0) ++ flat_map f (drop (suc at) bytes))
  first_other [] at lt none = absurd (omega arith)
  first_other (b ∷ bytes) zero lt none = refl
  first_other (b ∷ bytes) (suc at) lt none =
      rw (same b (none 0 (omega arith)), first_other bytes at (omega arith) (λ k l. none (suc k) (omega arith))) refl

  -- the text of the rest up to the first other byte, and of that byte
  cut : (rest : List ℕ) (at : ℕ) → position is_other rest ≡ Some at → flat_map f rest ≡ take at rest ++ (f (get_or rest at 0) ++ flat_map f (drop (at + 1) rest))
  cut rest at is =
      let found = position-Some is_other rest at 0 is in
      rw add-one (first_other rest at found.0 found.2)

  pub one_more : {a b c d : Sink} {p q r t bytes rest : List ℕ} (at : ℕ) → position is_other rest ≡ Some at → SoFar f a b p q bytes rest
      → Put b c q r (take at rest) → Put c d r t (f (get_or rest at 0)) → SoFar f a d p t bytes (drop (at + 1) rest)
  one_more {rest = rest} at is far plain other = record {
    front = far.front ++ (take at rest ++ f (get_or rest at 0));
    joined = append_assoc far.front (take at rest ++ f (get_or rest at 0)) (flat_map f (drop (at + 1) rest))
        ∙ (ap (λ t. far.front ++ t) (append_assoc (take at rest) (f (get_or rest at 0)) (flat_map f (drop (at + 1) rest)) ∙ sym (cut rest at is)) ∙ far.joined);
    put = Put-append far.put (Put-append plain other);
  }

  pub broke_in_front : {a b c : Sink} {p q bytes rest : List ℕ} (at : ℕ) → position is_other rest ≡ Some at → SoFar f a b p q bytes rest
      → BrokeOff b c (q ++ take at rest) → BrokeOff a c (p ++ flat_map f bytes)
  broke_in_front {a} {b} {c} {p} {q} {bytes} {rest} at is far broke =
      let behind = f (get_or rest at 0) ++ flat_map f (drop (at + 1) rest) in
      let in_rest : BrokeOff b c (q ++ flat_map f rest) = Breaks-as b c q (take at rest ++ behind) (flat_map f rest) (sym (cut rest at is)) (Breaks-before q (take at rest) behind broke) in
      Breaks-as a c p (far.front ++ flat_map f rest) (flat_map f bytes) far.joined (Breaks-after (flat_map f rest) far.put in_rest)

  pub broke_behind : {a b c d : Sink} {p q r bytes rest : List ℕ} (at : ℕ) → position is_other rest ≡ Some at → SoFar f a b p q bytes rest
      → Put b c q r (take at rest) → BrokeOff c d (r ++ f (get_or rest at 0)) → BrokeOff a d (p ++ flat_map f bytes)
  broke_behind {a} {b} {c} {d} {p} {q} {r} {bytes} {rest} at is far plain broke =
      let other = f (get_or rest at 0) in
      let behind = flat_map f (drop (at + 1) rest) in
      let in_other : BrokeOff c d (r ++ (other ++ behind)) = Breaks-before r other behind broke in
      let joined : (far.front ++ take at rest) ++ (other ++ behind) ≡ flat_map f bytes =
      append_assoc far.front (take at rest) (other ++ behind) ∙ (ap (λ t. far.front ++ t) (sym (cut rest at is)) ∙ far.joined) in
      Breaks-as a d p ((far.front ++ take at rest) ++ (other ++ behind)) (flat_map f bytes) joined (Breaks-after (other ++ behind) (Put-append far.put plain) in_other)

  pub at_last : {T E : Type 0} {a b : Sink} {p q bytes rest : List ℕ} (c : Sink) (r : List ℕ) (result : Result T E) → position is_other rest ≡ None → SoFar f a b p q bytes rest
      → Puts result b c q r rest → Puts result a c p r (flat_map f bytes)
  at_last {a = a} {p = p} {bytes = bytes} {rest = rest} c r result is far puts =
      let same_rest : flat_map f rest ≡ rest = all_same rest (position-none is_other rest is) in
      Puts-as a c p r (far.front ++ rest) (flat_map f bytes) result (ap (λ t. far.front ++ t) (sym same_rest) ∙ far.joined) (Puts-after c r rest result far.put puts)

  -- bytes without another byte were put as they are
  pub at_once : {T E : Type 0} (a b : Sink) (p q bytes : List ℕ) (result : Result T E) → list_any is_other bytes ≡ false → Puts result a b p q bytes → Puts result a b p q (flat_map f bytes)
  at_once a b p q bytes result none puts = Puts-as a b p q bytes (flat_map f bytes) result (sym (all_same bytes none)) puts

-- a byte that is printed as it is
pub as_it_is : (form : Form) (b : ℕ) → not (stands form b) ≡ false → form_of form b ≡ b ∷ []
as_it_is AsText b h = grind (arith, nat_tests)
as_it_is AsWord b h = grind (arith, nat_tests)

-- bytes without one that is printed otherwise are printed as they are
pub plain_text : (other : Bool) (bytes : List ℕ) → other ≡ list_any (λ b. not (stands AsText b)) bytes → OnTrue (not other) (text_form bytes ≡ bytes)
plain_text true bytes e = tt
plain_text false bytes e = all_same escaped (λ b. not (stands AsText b)) (as_it_is AsText) bytes (sym e)

-- and so are words that are not empty
pub plain_word : (other : Bool) (bytes : List ℕ) → nat_eq (length bytes) 0 ≡ false → other ≡ list_any (λ b. not (stands AsWord b)) bytes → OnTrue (not other) (word_form bytes ≡ bytes)
plain_word true bytes h e = tt
plain_word false [] h e = absurd (let f = h in cc)
plain_word false (b ∷ bytes) h e = all_same word_escaped (λ c. not (stands AsWord c)) (as_it_is AsWord) (b ∷ bytes) (sym e)

-- whether one of some bytes passes a test, by blocks of them
module _ (test : ℕ → Bool) where
  pub any-cut : (bytes : List ℕ) (n : ℕ) → list_any test bytes ≡ (list_any test (take n bytes) || list_any test (drop n bytes))
  any-cut bytes n = ap (list_any test) (sym (take-append-drop n bytes)) ∙ list_any-append test (take n bytes) (drop n bytes)

  -- what is in a rest is in a longer one
  any-longer : (bytes : List ℕ) (n : ℕ) → list_any test (drop n bytes) ≡ true → list_any test bytes ≡ true
  any-longer bytes n h = any-cut bytes n ∙ (ap (λ t. list_any test (take n bytes) || t) h ∙ or-true (list_any test (take n bytes)))
    where
      or-true : (b : Bool) → (b || true) ≡ true
      or-true true = refl
      or-true false = refl

  -- a block that has one
  pub any-found : (bytes rest : List ℕ) (n : ℕ) → list_any test bytes ≡ list_any test rest → list_any test (take n rest) ≡ true → true ≡ list_any test bytes
  any-found bytes rest n h some = sym (h ∙ (any-cut rest n ∙ ap (λ t. t || list_any test (drop n rest)) some))

  -- and a block that has none
  pub any-after : (bytes rest : List ℕ) (n : ℕ) → list_any test bytes ≡ list_any test rest → list_any test (take n rest) ≡ false
      → list_any test bytes ≡ list_any test (drop n rest)
  any-after bytes rest n h none = h ∙ (any-cut rest n ∙ ap (λ t. t || list_any test (drop n rest)) none)

  -- the last block has the rest in it
  pub any-last : (bytes : List ℕ) (k n : ℕ) → list_any test bytes ≡ list_any test (drop k bytes) → length (drop k bytes) ≤ n
      → list_any test (drop (length bytes - n) bytes) ≡ list_any test bytes
  any-last bytes k n h short =
      let from = length bytes - n in
      let dropped = length-drop k bytes in
      let between : from + (k - from) ≡ k = omega (arith, dropped, short) in
      let apart : drop (k - from) (drop from bytes) ≡ drop k bytes = drop-drop (k - from) from bytes ∙ ap (λ i. drop i bytes) between in
      elim (cases_Bool (list_any test (drop from bytes))) [
        | inl some ↦ some ∙ sym (any-longer bytes from some)
        | inr none ↦ none ∙ sym (h ∙ rest-none (drop from bytes) (k - from) (drop k bytes) apart none)
      ]
    where
      rest-none : (xs : List ℕ) (n : ℕ) (ys : List ℕ) → drop n xs ≡ ys → list_any test xs ≡ false → list_any test ys ≡ false
      rest-none xs n ys e none =
          elim (cases_Bool (list_any test ys)) [
            | inl some ↦ absurd (false≢true (sym none ∙ any-longer xs n (ap (list_any test) e ∙ some)))
            | inr stays ↦ stays
          ]

  -- two blocks that have all bytes
  pub any-ends : (bytes : List ℕ) (n : ℕ) → length bytes ≤ n + n
      → (list_any test (take n bytes) || list_any test (drop (length bytes - n) bytes)) ≡ list_any test bytes
  any-ends bytes n few =
      elim (cases_Bool (list_any test (take n bytes))) [
        | inl some ↦ ap (λ t. t || list_any test (drop (length bytes - n) bytes)) some ∙ sym (any-cut bytes n ∙ ap (λ t. t || list_any test (drop n bytes)) some)
        | inr none ↦
            let dropped = length-drop n bytes in
            ap (λ t. t || list_any test (drop (length bytes - n) bytes)) none
            ∙ any-last bytes n n (any-cut bytes n ∙ ap (λ t. t || list_any test (drop n bytes)) none) (omega (arith, dropped, few))
      ]

  -- the first byte that passes is after bytes that do not, whatever follows
  upto : (bytes rest : List ℕ) (at : ℕ) → list_any test (take at bytes) ≡ false → at < length bytes → test (get_or bytes at 0) ≡ true → position_or_len test (bytes ++ rest) ≡ at
  upto [] rest at none lt is = absurd (omega arith)
  upto (b ∷ bytes) rest zero none lt is = rw is refl
  upto (b ∷ bytes) rest (suc at) none lt is =
      elim (cases_Bool (test b)) [
        | inl some ↦ let t : list_any test (take (suc at) (b ∷ bytes)) ≡ true = rw some refl in absurd (false≢true (sym none ∙ t))
        | inr other ↦ let t : list_any test (take at bytes) ≡ false = rw other at none in let e : prefix_len (λ x. not (test x)) (bytes ++ rest) ≡ at = upto bytes rest at t (omega arith) is in rw other (omega (arith, e))
      ]

  pub first-after : (bytes rest : List ℕ) (at : ℕ) → list_any test (take at bytes) ≡ false → at < length bytes → test (get_or bytes at 0) ≡ true → position test (bytes ++ rest) ≡ Some at
  first-after bytes rest at none lt is =
      let e = upto bytes rest at none lt is in
      let longer : at < length (bytes ++ rest) = omega (arith, lt, length-append bytes rest) in
      rw e (grind (arith, nat_tests, longer))

-- the end of a line among the first bytes, after bytes that are printed as they are
pub line_end : (form : Form) (near : ℕ) (bytes : List ℕ) (at : ℕ) → position (λ b. b == 10) (take near bytes) ≡ Some at → list_any (λ b. not (stands form b)) (take at (take near bytes)) ≡ false
    → position (λ b. not (stands form b)) bytes ≡ Some at
line_end form near bytes at is none =
    let found = position-Some (λ b. b == 10) (take near bytes) at 0 is in
    let P : List ℕ → Type 0 = λ t. position (λ b. not (stands form b)) t ≡ Some at in
    subst P (take-append-drop near bytes) (first-after (λ b. not (stands form b)) (take near bytes) (drop near bytes) at none found.0 (escaped_end form (get_or (take near bytes) at 0) found.1))
  where
    escaped_end : (form : Form) (b : ℕ) → (b == 10) ≡ true → not (stands form b) ≡ true
    escaped_end AsText b h = grind (arith, nat_tests)
    escaped_end AsWord b h = grind (arith, nat_tests)
