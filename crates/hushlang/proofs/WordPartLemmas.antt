-- One look at a text, as the program takes it.
use Rattle.std.proofs.Common.{◌≡◌, ℕ, zero, suc, ◌+◌, ◌-◌, ◌<◌, ◌≤◌, List, [], ◌∷◌, length, take, drop, get_or, refl, ap, sym, ◌∙◌, subst, arith, Ok}
use Rattle.std.proofs.lemmas.List.{drop-drop, length-drop, drop_more}
use Rattle.std.proofs.Math.Seq.{take-length}
use Rattle.hushlang.specs.CuttersShown as cutting
use Rattle.hushlang.specs.CuttersShown.{StaysWithin}
use Rattle.hushlang.specs.declared.word_parts.Part as code
use Rattle.hushlang.specs.declared.word_parts.Step as found_by_code
use Rattle.hushlang.specs.declared.word_parts.Step.TheVariants as found_by
use Rattle.hushlang.specs.Token.{Part}
use Rattle.hushlang.specs.Tokenizing.{Goes, Vanishes, step, in_front, row}
use Rattle.hushlang.specs.declared.word_parts.Mode.{Mode}
use Rattle.hushlang.proofs.SpellingLemmas.{row_step, in_front-nil}

-- this many bytes are skipped
pub row_drop : (mode : Mode) (s skip at : ℕ) (text : List ℕ) → skip ≤ length text → row mode s skip at text ≡ row mode s 0 (at + skip) (drop skip text)
row_drop mode s zero at [] h = refl
row_drop mode s zero at (b ∷ text) h = let e : at ≡ at + 0 = omega arith in ap (λ n. row mode s 0 n (b ∷ text)) e
row_drop mode s (suc skip) at [] h = absurd (omega arith)
row_drop mode s (suc skip) at (b ∷ text) h = let e : suc at + skip ≡ at + suc skip = omega arith in row_drop mode s skip (suc at) text (omega arith) ∙ ap (λ n. row mode s 0 n (drop skip text)) e

module _ (source : List ℕ) (mode : Mode) (s at b : ℕ) (here : drop at source ≡ b ∷ drop (at + 1) source) where
  pub row_goes : (later : Mode) (skip : ℕ) (parts : List Part) → step mode at b (drop (at + 1) source) ≡ Goes later skip parts → skip ≤ length (drop (at + 1) source) → row mode s 0 at (drop at source) ≡ in_front parts (row later (at + (1 + skip)) 0 (at + (1 + skip)) (drop (at + (1 + skip)) source))
  row_goes later skip parts e h =
      let n : suc at + skip ≡ at + (1 + skip) = omega arith in
      let k : (at + 1) + skip ≡ at + (1 + skip) = omega arith in
      ap (λ (x : List ℕ). row mode s 0 at x) here
      ∙ row_step mode s at b (drop (at + 1) source) (Goes later skip parts) e
      ∙ ap (in_front parts) (row_drop later (suc at + skip) skip (suc at) (drop (at + 1) source) h
      ∙ ap (λ (x : List ℕ). row later (suc at + skip) 0 (suc at + skip) x) (drop-drop skip (at + 1) source ∙ ap (λ n. drop n source) k)
      ∙ ap (λ n. row later n 0 n (drop (at + (1 + skip)) source)) n)

  pub row_vanishes : step mode at b (drop (at + 1) source) ≡ Vanishes → 1 ≤ length (drop (at + 1) source) → row mode s 0 at (drop at source) ≡ row mode s 0 (at + 2) (drop (at + 2) source)
  row_vanishes e h =
      let n : suc at + 1 ≡ at + 2 = omega arith in
      let k : (at + 1) + 1 ≡ at + 2 = omega arith in
      ap (λ (x : List ℕ). row mode s 0 at x) here
      ∙ row_step mode s at b (drop (at + 1) source) Vanishes e
      ∙ row_drop mode s 1 (suc at) (drop (at + 1) source) h
      ∙ ap (λ (x : List ℕ). row mode s 0 (suc at + 1) x) (drop-drop 1 (at + 1) source ∙ ap (λ n. drop n source) k)
      ∙ ap (λ n. row mode s 0 n (drop (at + 2) source)) n

-- what is after a place, as a slice of the program
pub rest_is : (source : List ℕ) (n : ℕ) → take (length source - n) (drop n source) ≡ drop n source
rest_is source n = ap (λ k. take k (drop n source)) (sym (length-drop n source)) ∙ take-length (drop n source)

-- the same from what the program's look answered
module _ (source : List ℕ) (mode : Mode) (s at b : ℕ) (inside : at < length source) (is : b ≡ get_or source at 0) (found : found_by_code.Step) (said : cutting.step (Ok found) ≡ step mode at b (take (length source - (at + 1)) (drop (at + 1) source))) (within : StaysWithin (length (take (length source - (at + 1)) (drop (at + 1) source))) (Ok found)) where
  here_is : drop at source ≡ b ∷ drop (at + 1) source
  here_is = drop_more source at 0 inside ∙ ap (λ b. b ∷ drop (at + 1) source) (sym is)

  said_is : step mode at b (drop (at + 1) source) ≡ cutting.step (Ok found)
  said_is = ap (λ (x : List ℕ). step mode at b x) (sym (rest_is source (at + 1))) ∙ sym said

  within_is : StaysWithin (length (drop (at + 1) source)) (Ok found)
  within_is = subst (λ (x : List ℕ). StaysWithin (length x) (Ok found)) (rest_is source (at + 1)) within

  pub part_found : (p : code.Part) (skip : ℕ) (later : Mode) → found ≡ found_by.Part p skip later → (row mode s 0 at (drop at source) ≡ in_front (cutting.part p ∷ []) (row later (at + (1 + skip)) 0 (at + (1 + skip)) (drop (at + (1 + skip)) source))) × (at + (1 + skip) ≤ length source)
  part_found p skip later e =
      let fits : skip ≤ length (drop (at + 1) source) = subst (λ f. StaysWithin (length (drop (at + 1) source)) (Ok f)) e within_is in
      (row_goes source mode s at b here_is later skip (cutting.part p ∷ []) (said_is ∙ ap (λ f. cutting.step (Ok f)) e) fits, omega (arith, length-drop (at + 1) source))

  pub pass_found : (skip : ℕ) (later : Mode) → found ≡ found_by.Pass skip later → (row mode s 0 at (drop at source) ≡ row later (at + (1 + skip)) 0 (at + (1 + skip)) (drop (at + (1 + skip)) source)) × (at + (1 + skip) ≤ length source)
  pass_found skip later e =
      let fits : skip ≤ length (drop (at + 1) source) = subst (λ f. StaysWithin (length (drop (at + 1) source)) (Ok f)) e within_is in
      (row_goes source mode s at b here_is later skip [] (said_is ∙ ap (λ f. cutting.step (Ok f)) e) fits ∙ in_front-nil (row later (at + (1 + skip)) 0 (at + (1 + skip)) (drop (at + (1 + skip)) source)), omega (arith, length-drop (at + 1) source))

  pub pair_found : found ≡ found_by.Vanish → (row mode s 0 at (drop at source) ≡ row mode s 0 (at + 2) (drop (at + 2) source)) × (at + 2 ≤ length source)
  pair_found e =
      let fits : 1 ≤ length (drop (at + 1) source) = subst (λ f. StaysWithin (length (drop (at + 1) source)) (Ok f)) e within_is in
      (row_vanishes source mode s at b here_is (said_is ∙ ap (λ f. cutting.step (Ok f)) e) fits, omega (arith, length-drop (at + 1) source))
