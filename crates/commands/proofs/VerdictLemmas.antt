-- Numbers and terms of `test`.
use Rattle.std.proofs.Common.{◌≡◌, ℕ, zero, suc, ◌-◌, ◌^◌, ◌≤◌, ◌<◌, min, Bool, true, false, not, cond, eqb, List, [], ◌∷◌, length, Option, Some, None, refl, sym, ap, ◌∙◌, arith, subst}
use Rattle.std.specs.Prelude.{Vec, option_map}
use Rattle.std.specs.Str.{bytes_eq}
use Rattle.std.specs.declared.alloc.Global.{Global}
use Rattle.commands.specs.Verdict.{Text, Term, negated, compared, measured, comparison, opposite, term, combined, chain, verdict}
use Rattle.commands.specs.TextsShown.{texts}

least : (m n : ℕ) → m ≡ min n (2 ^ 64 - 1) → min m 9223372036854775808 ≡ min n 9223372036854775808
least m n e = omega (arith, e)

-- the least number of 64 bits is reached before a magnitude is cut
pub negated-kept : (m n : ℕ) → m ≡ min n (2 ^ 64 - 1) → negated (min m 9223372036854775808) ≡ negated (min n 9223372036854775808)
negated-kept m n e = ap negated (least m n e)

pub greatest : (m n : ℕ) → m ≡ min n (2 ^ 64 - 1) → min m 9223372036854775807 ≡ min n 9223372036854775807
greatest m n e = omega (arith, e)

-- ---- terms

-- the term after some `!`
abbrev pub turned : Bool → Term → Term
turned true t = opposite t
turned false t = t

turned-not : (o : Bool) (t : Term) → turned o (opposite t) ≡ turned (not o) t
turned-not true None = refl
turned-not true (Some t) = ap (λ b. Some (b, t.1)) (twice t.0)
  where
    twice : (b : Bool) → not (not b) ≡ b
    twice true = refl
    twice false = refl
turned-not false t = refl

opposite_of : (first : Text) (words : List Text) → compared (first ∷ words) ≡ None → bytes_eq first (33 ∷ []) ≡ true → term (first ∷ words) ≡ opposite (term words)
opposite_of first words none bang = by (compared (first ∷ words)) none (bytes_eq first (33 ∷ [])) bang
  where
    by : (c : Term) → c ≡ None → (b : Bool) → b ≡ true → elim c [ Some t ↦ Some t | None ↦ elim b [ true ↦ opposite (term words) | false ↦ measured (first ∷ words) ] ] ≡ opposite (term words)
    by None e true f = refl
    by None e false f = cc
    by (Some t) e b f = cc

-- one more `!`
pub term-turned : (whole : Term) (o : Bool) (rest : List Text) (first : Text) (words : List Text) → whole ≡ turned o (term rest) → rest ≡ first ∷ words → compared rest ≡ None → bytes_eq first (33 ∷ []) ≡ true → whole ≡ turned (not o) (term words)
term-turned whole o rest first words so e none bang =
    let none_here : compared (first ∷ words) ≡ None = ap compared (sym e) ∙ none in
    so ∙ (ap (λ r. turned o (term r)) e ∙ (ap (turned o) (opposite_of first words none_here bang) ∙ turned-not o (term words)))

compared-shorter : (words : List Text) (t : Bool × List Text) → compared words ≡ Some t → length t.1 ≤ length words
compared-shorter [] t e = cc
compared-shorter (a ∷ []) t e = cc
compared-shorter (a ∷ b ∷ []) t e = cc
compared-shorter (a ∷ b ∷ c ∷ words) t e = by (comparison b a c) e
  where
    by : (o : Option Bool) → option_map (λ truth. (truth, words)) o ≡ Some t → length t.1 ≤ length (a ∷ b ∷ c ∷ words)
    by None e = cc
    by (Some truth) e = let behind : words ≡ t.1 = cc in omega (arith, ap length behind)

measured-shorter : (words : List Text) (t : Bool × List Text) → measured words ≡ Some t → length t.1 ≤ length words
measured-shorter [] t e = cc
measured-shorter (a ∷ []) t e = cc
measured-shorter (a ∷ b ∷ words) t e = by (bytes_eq a (45 ∷ 110 ∷ [])) (bytes_eq a (45 ∷ 122 ∷ [])) e
  where
    by : (n z : Bool) → cond n (Some (not (eqb (length b) 0), words)) (cond z (Some (eqb (length b) 0, words)) None) ≡ Some t → length t.1 ≤ length (a ∷ b ∷ words)
    by true z e = let behind : words ≡ t.1 = cc in omega (arith, ap length behind)
    by false true e = let behind : words ≡ t.1 = cc in omega (arith, ap length behind)
    by false false e = cc

-- a term takes only words that are there
pub term-shorter : (words : List Text) (t : Bool × List Text) → term words ≡ Some t → length t.1 ≤ length words
term-shorter [] t e = cc
term-shorter (first ∷ words) t e = by (compared (first ∷ words)) refl (bytes_eq first (33 ∷ [])) (term words) refl e (λ u same. term-shorter words u same)
  where
    by : (c : Term) → compared (first ∷ words) ≡ c → (b : Bool) (inner : Term) → term words ≡ inner → elim c [ Some t ↦ Some t | None ↦ elim b [ true ↦ opposite inner | false ↦ measured (first ∷ words) ] ] ≡ Some t
        → ((u : Bool × List Text) → term words ≡ Some u → length u.1 ≤ length words) → length t.1 ≤ length (first ∷ words)
    by (Some u) is b inner same e shorter = compared-shorter (first ∷ words) t (is ∙ e)
    by None is true None same e shorter = cc
    by None is true (Some u) same e shorter = let behind : u.1 ≡ t.1 = cc in omega (arith, ap length behind, shorter u same)
    by None is false inner same e shorter = measured-shorter (first ∷ words) t e

-- ---- chains

pub verdict-begun : (words : List Text) (t : Bool × List Text) → term words ≡ Some t → verdict words ≡ chain (length words) t.0 t.1
verdict-begun words t e = rw (e, verdict) refl

-- what is left of a chain after one more term
pub record ChainLeft (whole : Bool) (truth : Bool) (words : List Text) : Type 0 where
  pub left : ℕ
  pub enough : length words ≤ left
  pub is_whole : whole ≡ chain left truth words

pub chain-begun : (words : List Text) (t : Bool × List Text) → term words ≡ Some t → ChainLeft (verdict words) t.0 t.1
chain-begun words t e = record { left = length words; enough = term-shorter words t e; is_whole = verdict-begun words t e }

pub length-texts : (words : List (Vec ℕ Global)) → length (texts words) ≡ length words
length-texts [] = refl
length-texts (w ∷ words) = ap suc (length-texts words)

pub chain-next : (whole truth both : Bool) (n : ℕ) (rest words : List Text) (operator : Text) (t : Bool × List Text) → whole ≡ chain n truth rest → length rest ≤ n → rest ≡ operator ∷ words → term words ≡ Some t → combined operator truth t.0 ≡ Some both → ChainLeft whole both t.1
chain-next whole truth both zero rest words operator t so h e is joined = absurd (omega (arith, h, ap length e))
chain-next whole truth both (suc n) rest words operator t so h e is joined = record {
  left = n;
  enough = omega (arith, h, ap length e, term-shorter words t is);
  is_whole = so ∙ (ap (chain (suc n) truth) e ∙ by (term words) is);
}
  where
    last : (o : Option Bool) → o ≡ Some both → elim o [ None ↦ false | Some both ↦ chain n both t.1 ] ≡ chain n both t.1
    last None f = cc
    last (Some b) f = let same : b ≡ both = cc in ap (λ v. chain n v t.1) same

    by : (u : Term) → u ≡ Some t → elim u [ None ↦ false | Some t ↦ elim (combined operator truth t.0) [ None ↦ false | Some both ↦ chain n both t.1 ] ] ≡ chain n both t.1
    by None e = cc
    by (Some u) e = let same : u ≡ t = cc in subst (λ v. elim (combined operator truth v.0) [ None ↦ false | Some both ↦ chain n both v.1 ] ≡ chain n both t.1) (sym same) (last (combined operator truth t.0) joined)

-- fewer than three words make no comparison
pub compared-short : (words : List (Vec ℕ Global)) → length words < 3 → compared (texts words) ≡ None
compared-short [] h = refl
compared-short (a ∷ []) h = refl
compared-short (a ∷ b ∷ []) h = refl
compared-short (a ∷ b ∷ c ∷ words) h = absurd (omega (arith, h))

pub ruleset terms = (term-turned, compared-short)

pub ruleset cut_numbers = (negated-kept, greatest)
