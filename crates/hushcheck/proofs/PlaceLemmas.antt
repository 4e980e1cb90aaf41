-- The line of a byte, in a text that is gone through.
use Rattle.std.proofs.Common.{◌≡◌, ℕ, ◌+◌, ◌-◌, ◌<◌, ◌≤◌, Bool, true, not, List, ◌++◌, length, take, drop, min, get_or, refl, sym, ap, ◌∙◌, arith}
use Rattle.std.proofs.lemmas.Bool.{false_from_ne_true, not_from_false, not_from_true}
use Rattle.std.proofs.lemmas.Bool.{cases_lt}
use Rattle.std.proofs.Common.{inl, inr}
use Rattle.std.proofs.lemmas.List.{drop-drop, drop-take, drop_min, get_or-drop, get_or-take, length-drop, length-take-le, take_min}
use Rattle.std.proofs.lemmas.List.Sums.{position_or_len_is, suffix_len_is, sum_by-append}
use Rattle.std.proofs.Math.Seq.{take-add}
use Rattle.std.specs.Prelude.{if◌then◌else◌}
use Rattle.std.specs.List.{after_last, before_first, count_by, suffix_len}
use Rattle.text.specs.Lines.{is_newline}
use Rattle.hushcheck.specs.Place.{IsPoint, front_shown, line_front, place_in, rest_shown}
use Rattle.hushcheck.specs.Places.{lines_at}
use Rattle.hushcheck.specs.declared.place.Place.{Place}
use Rattle.hushcheck.specs.declared.place.Point.{Point}

-- after the last newline, which is before n
last_line : (xs : List ℕ) (n : ℕ) → n ≤ length xs → ((k : ℕ) → n ≤ k → k < length xs → is_newline (get_or xs k 0) ≡ true → ⊥) → (0 < n → is_newline (get_or xs (n - 1) 0) ≡ true) → drop n xs ≡ after_last is_newline xs
last_line xs n within none newline =
    let e : suffix_len (λ x. not (is_newline x)) xs ≡ length xs - n = suffix_len_is (λ x. not (is_newline x)) xs n 0 within
    (λ k low high. not_from_false (is_newline (get_or xs k 0)) (false_from_ne_true (is_newline (get_or xs k 0)) (none k low high)))
    (λ some. not_from_true (is_newline (get_or xs (n - 1) 0)) (newline some)) in
    let m : length xs - (length xs - n) ≡ n = omega arith in
    ap (λ k. drop k xs) (sym (ap (λ k. length xs - k) e ∙ m))

-- up to the first newline, which is at n
pub first_line : (xs : List ℕ) (n : ℕ) → n ≤ length xs → ((k : ℕ) → k < n → is_newline (get_or xs k 0) ≡ true → ⊥) → (n < length xs → is_newline (get_or xs n 0) ≡ true) → take n xs ≡ before_first is_newline xs
first_line xs n within none newline =
    ap (λ k. take k xs) (sym (position_or_len_is is_newline xs n 0 within (λ k high. false_from_ne_true (is_newline (get_or xs k 0)) (none k high)) newline))

count_by-append : (q : ℕ → Bool) (xs ys : List ℕ) → count_by q (xs ++ ys) ≡ count_by q xs + count_by q ys
count_by-append q xs ys = sum_by-append (λ x. if q x then 1 else 0) xs ys

-- ---- what is before a place in its line

module _ (text : List ℕ) (p : Point) (h : IsPoint text p) where
  length_before : length (take p.at text) ≡ p.at
  length_before = length-take-le p.at text h.within

  front_is : drop p.start (take p.at text) ≡ line_front text p.at
  front_is =
      let len = length_before in
      last_line (take p.at text) p.start (let s = h.start in omega (arith, s, len))
      (λ k low high yes. let below : k < p.at = omega (arith, high, len) in h.none k low below (sym (ap is_newline (get_or-take p.at text k 0 below)) ∙ yes))
      (λ some. let below : p.start - 1 < p.at = (let s = h.start in omega (arith, s, some)) in ap is_newline (get_or-take p.at text (p.start - 1) 0 below) ∙ h.newline some)

  pub column_is : length (line_front text p.at) ≡ p.at - p.start
  column_is = ap (λ xs. length xs) (sym front_is) ∙ length-drop p.start (take p.at text) ∙ ap (λ n. n - p.start) length_before

  pub place_is : (place : Place) → place ≡ record { line = p.line; column = p.at - p.start + 1 } → place ≡ place_in text p.at
  place_is place e =
      let c : p.at - p.start + 1 ≡ 1 + length (line_front text p.at) = (let n = column_is in omega (arith, n)) in
      e ∙ ap (λ line. let q : Place = record { line = line; column = p.at - p.start + 1 } in q) h.line
      ∙ ap (λ column. let q : Place = record { line = 1 + count_by is_newline (take p.at text); column = column } in q) c

  -- what is shown of the line
  pub rest_is : (room end : ℕ) → room ≡ 80 - min (p.at - p.start) 40 → end ≡ min (p.at + room) (length text)
      → before_first is_newline (take (end - p.at) (drop p.at text)) ≡ rest_shown text p.at
  rest_is room end r e =
      let w = h.within in
      let d = length-drop p.at text in
      let n : end - p.at ≡ min room (length (drop p.at text)) = omega (arith, e, d, w) in
      let m : room ≡ 80 - min (length (line_front text p.at)) 40 = r ∙ ap (λ k. 80 - min k 40) (sym column_is) in
      ap (before_first is_newline) (ap (λ k. take k (drop p.at text)) n ∙ take_min room (drop p.at text) ∙ ap (λ k. take k (drop p.at text)) m)

  pub front_shown_is : (rest : List ℕ) (kept low : ℕ) → rest ≡ rest_shown text p.at → kept ≡ min (p.at - p.start) (80 - length rest) → low ≡ p.at - kept
      → take (p.at - low) (drop low text) ≡ front_shown text p.at
  front_shown_is rest kept low r k l =
      let s = h.start in
      let cut = length (line_front text p.at) - (80 - length (rest_shown text p.at)) in
      let c = column_is in
      let q : length (rest_shown text p.at) ≡ length rest = ap (λ xs. length xs) (sym r) in
      let a : p.start + cut ≡ low = omega (arith, k, l, s, c, q) in
      let b : low + (p.at - low) ≡ p.at = omega (arith, k, l, s) in
      sym (drop-take low (p.at - low) text) ∙ ap (λ n. drop low (take n text)) b ∙ ap (λ n. drop n (take p.at text)) (sym a)
      ∙ sym (drop-drop cut p.start (take p.at text)) ∙ ap (drop cut) front_is

  -- ---- a later place

  module _ (at : ℕ) (later : p.at ≤ at) (within : at ≤ length text) where
    abbrev pub between : List ℕ
    between = take (at - p.at) (drop p.at text)

    length_between : length between ≡ at - p.at
    length_between = length-take-le (at - p.at) (drop p.at text) (let d = length-drop p.at text in omega (arith, d, within, later))

    between_at : (k : ℕ) → p.at ≤ k → k < at → get_or between (k - p.at) 0 ≡ get_or text k 0
    between_at k low high =
        let e : p.at + (k - p.at) ≡ k = omega (arith, low) in
        get_or-take (at - p.at) (drop p.at text) (k - p.at) 0 (omega (arith, low, high)) ∙ get_or-drop p.at text (k - p.at) 0 ∙ ap (λ j. get_or text j 0) e

    abbrev pub LineTo : ℕ → Type 0
    LineTo line = line ≡ 1 + count_by is_newline (take at text)

    pub lines_more : (n line : ℕ) → n ≡ count_by is_newline between → line ≡ p.line + n → LineTo line
    lines_more n line e l =
        let whole : take at text ≡ take p.at text ++ between = (let s : at ≡ p.at + (at - p.at) = omega (arith, later) in ap (λ k. take k text) s ∙ take-add p.at (at - p.at) text) in
        let sum : count_by is_newline (take at text) ≡ count_by is_newline (take p.at text) + count_by is_newline between = ap (count_by is_newline) whole ∙ count_by-append is_newline (take p.at text) between in
        let first = h.line in
        omega (arith, sum, first, e, l)

    -- the last newline between is at n
    pub behind_newline : (n line : ℕ) → LineTo line → n < length between → is_newline (get_or between n 0) ≡ true
        → ((k : ℕ) → n < k → k < length between → is_newline (get_or between k 0) ≡ true → ⊥)
        → (q : Point) → q ≡ record { at = at; line = line; start = p.at + n + 1 } → IsPoint text q
    behind_newline n line to high is none q e = rw e (record {
      within = within;
      line = to;
      start = (let l = length_between in omega (arith, l, high));
      none = λ k low below yes.
          (let l = length_between in
          none (k - p.at) (omega (arith, low)) (omega (arith, l, low, below)) (ap is_newline (between_at k (omega (arith, low)) below) ∙ yes));
      newline = λ some.
          (let l = length_between in
          let i : p.at + n + 1 - 1 - p.at ≡ n = omega arith in
          sym (ap is_newline (between_at (p.at + n + 1 - 1) (omega arith) (omega (arith, l, high)))) ∙ ap (λ j. is_newline (get_or between j 0)) i ∙ is);
    })

    -- there is no newline between
    pub same_line : (line : ℕ) → LineTo line → ((k : ℕ) → k < length between → is_newline (get_or between k 0) ≡ true → ⊥)
        → (q : Point) → q ≡ record { at = at; line = line; start = p.start } → IsPoint text q
    same_line line to none q e = rw e (record {
      within = within;
      line = to;
      start = (let s = h.start in omega (arith, s, later));
      none = λ k low below yes.
          elim (cases_lt k p.at) [
            | inl before ↦ h.none k low before yes
            | inr past ↦ (let l = length_between in none (k - p.at) (omega (arith, l, past, below)) (ap is_newline (between_at k (omega (arith, past)) below) ∙ yes))
          ];
      newline = h.newline;
    })

-- the place after the last byte is the end of the text
pub lines_within : (name text : List ℕ) (at : ℕ) (what : List ℕ) → lines_at name text (min at (length text)) what ≡ lines_at name text at what
lines_within name text at what = let t = take_min at text in let d = drop_min at text in rw (t, d) refl
