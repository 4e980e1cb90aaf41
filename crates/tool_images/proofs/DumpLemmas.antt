-- The last lines of a text.
use Rattle.std.proofs.Common.{◌≡◌, ℕ, suc, zero, ◌+◌, ◌-◌, ◌<◌, ◌≤◌, ◌==◌, true, false, List, [], ◌∷◌, take, get_or, length, map, reverse, eqb-true, Some, None, option_map, Bor, refl, sym, ap, ◌∙◌, arith}
use Rattle.std.proofs.lemmas.List.{take_more, map-append, reverse-append, reverse-reverse}
use Rattle.tool_images.specs.Dump.{behind_size, dumped_lines, from_last, is_size_line}

abbrev Line : Type 0
Line = Bor (List ℕ)

-- the first lines, from the last one back
abbrev back : ℕ → List Line → List (List ℕ)
back n lines = reverse (map (λ line. line.now) (take n lines))

back-more : (lines : List Line) (n : ℕ) (d : Line) → n < length lines → back (n + 1) lines ≡ (get_or lines n d).now ∷ back n lines
back-more lines n d l =
    ap (λ ls. reverse (map (λ line. line.now) ls)) (take_more lines n d l)
    ∙ (ap reverse (map-append (λ line. line.now) (take n lines) (get_or lines n d ∷ [])) ∙ reverse-append (map (λ line. line.now) (take n lines)) ((get_or lines n d).now ∷ []))

back-two : (lines : List Line) (n : ℕ) (d : Line) → 2 ≤ n → n ≤ length lines → back n lines ≡ (get_or lines (n - 1) d).now ∷ (get_or lines (n - 2) d).now ∷ back (n - 2) lines
back-two lines n d two l =
    let one : n ≡ (n - 1) + 1 = omega arith in
    let other : n - 1 ≡ (n - 2) + 1 = omega arith in
    ap (λ k. back k lines) one ∙ (back-more lines (n - 1) d (omega arith) ∙ ap (λ ls. (get_or lines (n - 1) d).now ∷ ls) (ap (λ k. back k lines) other ∙ back-more lines (n - 2) d (omega arith)))

-- what two last lines say
sized : (size empty : List ℕ) (front : List (List ℕ)) → (length empty == 0) ≡ true → is_size_line size ≡ true → behind_size (size ∷ empty ∷ front) ≡ Some front
sized size [] front e s = rw s refl
sized size (b ∷ bs) front e s = absurd (omega (arith, eqb-true (length (b ∷ bs)) 0 e))

unsized : (size empty : List ℕ) (front : List (List ℕ)) → is_size_line size ≡ false → behind_size (size ∷ empty ∷ front) ≡ None
unsized size [] front s = rw s refl
unsized size (b ∷ bs) front s = refl

filled : (size empty : List ℕ) (front : List (List ℕ)) → (length empty == 0) ≡ false → behind_size (size ∷ empty ∷ front) ≡ None
filled size [] front e = cc
filled size (b ∷ bs) front e = refl

alone : (lines : List Line) (n : ℕ) → n < 2 → behind_size (back n lines) ≡ None
alone lines zero short = refl
alone [] (suc zero) short = refl
alone (line ∷ lines) (suc zero) short = refl
alone lines (suc (suc n)) short = absurd (omega (arith, short))

-- ---- the lines in front of the two last ones

module _ (lines : List Line) (n : ℕ) (d : Line) (l : n ≤ length lines) (shown : from_last (reverse (map (λ line. line.now) lines)) ≡ back n lines) where
  behind : dumped_lines (map (λ line. line.now) lines) ≡ option_map reverse (behind_size (back n lines))
  behind = ap (λ ls. option_map reverse (behind_size ls)) shown

  pub dumped-short : n < 2 → None ≡ dumped_lines (map (λ line. line.now) lines)
  dumped-short short = sym (behind ∙ ap (option_map reverse) (alone lines n short))

  two : 2 ≤ n → dumped_lines (map (λ line. line.now) lines) ≡ option_map reverse (behind_size ((get_or lines (n - 1) d).now ∷ (get_or lines (n - 2) d).now ∷ back (n - 2) lines))
  two m = behind ∙ ap (λ ls. option_map reverse (behind_size ls)) (back-two lines n d m l)

  pub dumped-filled : 2 ≤ n → (length (get_or lines (n - 2) d).now == 0) ≡ false → None ≡ dumped_lines (map (λ line. line.now) lines)
  dumped-filled m e = sym (two m ∙ ap (option_map reverse) (filled (get_or lines (n - 1) d).now (get_or lines (n - 2) d).now (back (n - 2) lines) e))

  pub dumped-unsized : 2 ≤ n → is_size_line (get_or lines (n - 1) d).now ≡ false → None ≡ dumped_lines (map (λ line. line.now) lines)
  dumped-unsized m s = sym (two m ∙ ap (option_map reverse) (unsized (get_or lines (n - 1) d).now (get_or lines (n - 2) d).now (back (n - 2) lines) s))

  pub dumped-sized : 2 ≤ n → (length (get_or lines (n - 2) d).now == 0) ≡ true → is_size_line (get_or lines (n - 1) d).now ≡ true
      → Some (map (λ line. line.now) (take (n - 2) lines)) ≡ dumped_lines (map (λ line. line.now) lines)
  dumped-sized m e s =
      sym (two m ∙ (ap (option_map reverse) (sized (get_or lines (n - 1) d).now (get_or lines (n - 2) d).now (back (n - 2) lines) e s) ∙ ap Some (reverse-reverse (map (λ line. line.now) (take (n - 2) lines)))))

pub ruleset dumps = (dumped-short, dumped-filled, dumped-unsized, dumped-sized)
