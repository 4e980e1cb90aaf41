-- U-Boot's `test`: its numbers and its terms.
use Rattle.std.proofs.Common.{◌≡◌, ℕ, zero, suc, ◌+◌, ◌-◌, ◌*◌, ◌^◌, ◌<◌, ◌≤◌, Bool, true, false, not, cond, List, [], ◌∷◌, ◌++◌, Option, Some, None, length, take, drop, get_or, refl, sym, ap, ◌∙◌, arith}
use Rattle.std.specs.Prelude.{nat_lt, Vec, codes, ◌==◌}
use Rattle.std.specs.Borrow.{Bor}
use Rattle.std.specs.declared.alloc.Global.{Global}
use Rattle.std.specs.Str.{bytes_eq}
use Rattle.std.proofs.Math.Seq.{take-length}
use Rattle.std.proofs.lemmas.List.{length-drop, drop-map}
use Rattle.std.proofs.lemmas.List.Sums.{fold_more}
use Rattle.std.proofs.lemmas.Nat.{mul-mod_first}
use Rattle.std.proofs.Math.Nat.{mod-add-mod}
use Rattle.text.specs.Numbers.{digit_of, value_in}
use Rattle.commands.specs.Hexadecimal.{in_word}
use Rattle.commands.specs.Verdict.{Text, Comparison}
use Rattle.commands.specs.TextsShown.{texts}
use Rattle.commands.proofs.VerdictLemmas.{length-texts}
use Rattle.commands.specs.UBootTest.{Term, Turns, Joins, Finds, Asks, Breaks, And, Or, Begun, comparison_of, tests_word, asks, begins_with, compares, begins, terms_behind, terms, files_in, Joint, Alone, together, turned, holds, OnlyQuestionsCount}

-- ---- numbers

wrapped_digit : (n v base d : ℕ) → n ≡ in_word v → in_word (in_word (n * base) + d) ≡ in_word (v * base + d)
wrapped_digit n v base d is =
    mod-add-mod (n * base) (2 ^ 64) d
    ∙ (ap (λ m. in_word (m * base + d)) is
    ∙ (sym (mod-add-mod (in_word v * base) (2 ^ 64) d)
    ∙ (ap (λ m. in_word (m + d)) (mul-mod_first v base (2 ^ 64))
    ∙ mod-add-mod (v * base) (2 ^ 64) d)))

-- one digit more
pub digit_read : (digits : List ℕ) (i n base d : ℕ) → i < length digits → d ≡ digit_of (get_or digits i 0)
    → n ≡ in_word (value_in base (take i digits))
    → in_word (in_word (n * base) + d) ≡ in_word (value_in base (take (i + 1) digits))
digit_read digits i n base d inside is before =
    wrapped_digit n (value_in base (take i digits)) base d before
    ∙ (ap (λ m. in_word (value_in base (take i digits) * base + m)) is
    ∙ ap in_word (sym (fold_more (λ number b. number * base + digit_of b) 0 digits i 0 inside)))

-- ---- terms

terms_passed : (n : ℕ) (words : List Text) → terms_behind n words ≡ terms (drop n words)
terms_passed zero words = refl
terms_passed (suc n) [] = refl
terms_passed (suc n) (word ∷ words) = terms_passed n words

-- the first term, and those after it
terms_next : (words : List Text) (t : Term) (taken : ℕ) → begins words ≡ Some (t, taken)
    → terms words ≡ t ∷ terms (drop (suc taken) words)
terms_next [] t taken is = cc
terms_next (first ∷ others) t taken is = by (begins (first ∷ others)) is
  where
    by : (b : Begun) → b ≡ Some (t, taken)
        → elim b [ Some u ↦ u.0 ∷ terms_behind u.1 others | None ↦ Breaks ∷ [] ] ≡ t ∷ terms (drop taken others)
    by None f = cc
    by (Some u) f =
        let same : u ≡ (t, taken) = cc in
        ap (λ v. v.0 ∷ terms_behind v.1 others) same ∙ ap (λ more. t ∷ more) (terms_passed taken others)

-- a term takes only words that are there
abbrev IsInside : List Text → Begun → Type 0
IsInside words b = (t : Term) (n : ℕ) → b ≡ Some (t, n) → n ≤ length words

nothing : (words : List Text) → IsInside words None
nothing words t n e = cc

one : (words : List Text) (u : Term) (m : ℕ) → m ≤ length words → IsInside words (Some (u, m))
one words u m h t n e =
    let same : m ≡ n = ap (λ (o : Begun). elim o [ Some v ↦ v.1 | None ↦ 0 ]) e in
    omega (arith, same, h)

either : (words : List Text) (b : Bool) (x y : Begun) → IsInside words x → IsInside words y
    → IsInside words (cond b x y)
either words true x y p q = p
either words false x y p q = q

test_inside : (test : Text → Bool) (words : List Text) → IsInside words (tests_word test words)
test_inside test [] = nothing []
test_inside test (word ∷ words) = one (word ∷ words) (Finds (test word)) 1 (omega arith)

asks_inside : (words : List Text) → IsInside words (asks words)
asks_inside [] = nothing []
asks_inside (a ∷ []) = nothing (a ∷ [])
asks_inside (a ∷ b ∷ []) = nothing (a ∷ b ∷ [])
asks_inside (a ∷ b ∷ c ∷ words) = one (a ∷ b ∷ c ∷ words) (Asks (a ∷ b ∷ c ∷ [])) 3 (omega arith)

with_inside : (first : Text) (words : List Text) → IsInside words (begins_with first words)
with_inside first words =
    either words _ _ _ (one words Turns 0 (omega arith))
    (either words _ _ _ (one words (Joins Or) 0 (omega arith))
    (either words _ _ _ (one words (Joins And) 0 (omega arith))
    (either words (bytes_eq first (codes "-z")) _ _ (test_inside (λ word. length word == 0) words)
    (either words (bytes_eq first (codes "-n")) _ _ (test_inside (λ word. not (length word == 0)) words)
    (either words (bytes_eq first (codes "-e")) _ _ (asks_inside words) (nothing words))))))

begins_first : (first : Text) (others : List Text) → IsInside others (begins (first ∷ others))
begins_first first [] = with_inside first []
begins_first first (second ∷ words) = by (comparison_of second)
  where
    by : (o : Option Comparison)
        → IsInside (second ∷ words)
        (elim o [ Some compare ↦ compares compare first words | None ↦ begins_with first (second ∷ words) ])
    by None = with_inside first (second ∷ words)
    by (Some compare) = compared words
      where
        compared : (behind : List Text) → IsInside (second ∷ behind) (compares compare first behind)
        compared [] = nothing (second ∷ [])
        compared (right ∷ behind) = one (second ∷ right ∷ behind) (Finds (compare first right)) 2 (omega arith)

begins_inside : (words : List Text) (t : Term) (taken : ℕ) → begins words ≡ Some (t, taken) → 1 + taken ≤ length words
begins_inside [] t taken is = cc
begins_inside (first ∷ others) t taken is = omega (arith, begins_first first others t taken is)

pub next_inside : (words : List (Vec ℕ Global)) (t : Term) (taken : ℕ) → Some (t, taken) ≡ begins (texts words)
    → 1 + taken ≤ length words
next_inside words t taken is = omega (arith, begins_inside (texts words) t taken (sym is), length-texts words)

from_on : (n : ℕ) (words : List (Vec ℕ Global)) → take (length words - n) (drop n words) ≡ drop n words
from_on n words = ap (λ m. take m (drop n words)) (sym (length-drop n words)) ∙ take-length (drop n words)

-- the slice of the words after the first term
pub next_read : (words : List (Vec ℕ Global)) (t : Term) (taken : ℕ) → Some (t, taken) ≡ begins (texts words)
    → terms (texts words) ≡ t ∷ terms (texts (take (length words - (1 + taken)) (drop (1 + taken) words)))
next_read words t taken is =
    let next : 1 + taken ≡ suc taken = omega arith in
    terms_next (texts words) t taken (sym is)
    ∙ ap (λ n. t ∷ terms (drop n (texts words))) (sym next)
    ∙ ap (λ more. t ∷ terms more)
    (drop-map (λ word. word.items) (1 + taken) words ∙ ap texts (sym (from_on (1 + taken) words)))

-- ---- files

-- the file that was asked for, if one was
abbrev pub files_asked : Option (Bor (List (Vec ℕ Global))) → List (List Text)
files_asked None = []
files_asked (Some file) = texts file.now ∷ []

-- ---- answers

enough : (before : Bool) (joint : Joint) (turns : Bool) (answers more : List Bool) (ts : List Term)
    → length (files_in ts) ≤ length answers
    → holds before joint turns (answers ++ more) ts ≡ holds before joint turns answers ts
enough before joint turns answers more [] h = refl
enough before joint turns answers more (Turns ∷ ts) h = enough before joint (not turns) answers more ts h
enough before joint turns answers more (Joins next ∷ ts) h = enough before next turns answers more ts h
enough before joint turns answers more (Finds truth ∷ ts) h =
    enough (together joint before (turned turns truth)) Alone false answers more ts h
enough before joint turns [] more (Asks file ∷ ts) h = absurd (omega (arith, h))
enough before joint turns (answer ∷ answers) more (Asks file ∷ ts) h =
    enough (together joint before (turned turns answer)) Alone false answers more ts (omega (arith, h))
enough before joint turns answers more (Breaks ∷ ts) h = refl

pub only_questions_count : OnlyQuestionsCount
only_questions_count answers more words h =
    ap (cond (nat_lt (length words) 2) false) (enough false Alone false answers more (terms words) h)
