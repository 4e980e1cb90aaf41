-- From the entries that a getter reads to the rows of clap's specs.
use Rattle.std.proofs.Common.{◌≡◌, ◌==◌, ◌∙◌, ◌≤◌, ◌<◌, ◌&&◌, ◌^◌, subst, inl, inr, ℕ, Bool, true, false, refl, ap, List, [], ◌∷◌, length, map, Option, Some, None, unwrap_or, option_map, take}
use Rattle.std.specs.Prelude.{OkIff, Result, Ok, Err, nat_lt, slice_index}
use Rattle.std.specs.Result.{result_ok}
use Rattle.std.specs.Option.{option_map_or}
use Rattle.std.specs.List.{list_all, starts_with}
use Rattle.std.specs.Borrow.{Bor}
use Rattle.std.specs.Char.{digit_value}
use Rattle.std.specs.Str.Parse.{AllDigits, IsNumeral, ParsesUnsigned, digits_value, without_leading_plus}
use Rattle.std.proofs.lemmas.Bool.{cases_Bool, eqb-true, lt-ltb, ltb-true}
use Rattle.std.proofs.lemmas.List.{take_all}
use Rattle.clap.specs.Words.{Text}
use Rattle.clap.specs.ValueTests.{is_numeral}
use Rattle.clap.proofs.WalkLemmas.{both}
use Rattle.tool_words.specs.Asked.{number_of}

digits_pass : (ds : Text) → AllDigits 10 ds → list_all (λ d. nat_lt (digit_value d) 10) ds ≡ true
digits_pass [] h = refl
digits_pass (d ∷ ds) h = rw (lt-ltb (digit_value d) 10 h.0) (digits_pass ds h.1)

digits_from : (ds : Text) → list_all (λ d. nat_lt (digit_value d) 10) ds ≡ true → AllDigits 10 ds
digits_from [] e = tt
digits_from (d ∷ ds) e =
    let parts = both _ _ e in
    (ltb-true _ _ parts.0, digits_from ds parts.1)

abbrev is_small : Text → Bool
is_small ds = is_numeral ds && nat_lt (digits_value 10 ds) (2 ^ 32)

-- what a number is read from: digits, and nothing before them
abbrev Reads : {E : Type 0} → Text → Result ℕ E → Type 0
Reads ds r = OkIff r (IsNumeral 10 ds × (digits_value 10 ds < 2 ^ 32)) (digits_value 10 ds)

digits_read : {E : Type 0} (ds : Text) (r : Result ℕ E) → Reads ds r → result_ok r ≡ number_of ds
digits_read ds (Ok n) h =
    rw (lt-ltb 0 (length ds) h.0.0.0, digits_pass ds h.0.0.1, lt-ltb (digits_value 10 ds) (2 ^ 32) h.0.1) (ap (λ k. Some k) h.1)
digits_read ds (Err e) h = go (is_small ds) refl
  where
    go : (b : Bool) → is_small ds ≡ b → None ≡ number_of ds
    go false t = rw t refl
    go true t =
        let outer = both _ _ t in
        let inner = both _ _ outer.0 in
        absurd (h ((ltb-true _ _ inner.0, digits_from ds inner.1), ltb-true _ _ outer.1))

unsigned_text : (text : Text) → (slice_index text 0 == 43) ≡ false → without_leading_plus text ≡ text
unsigned_text text plain = rw plain refl

-- what `from_str` reads at a `u32`, of a text that starts with no plus
pub number_read : {E : Type 0} (text : Text) (r : Result ℕ E) → (slice_index text 0 == 43) ≡ false → ParsesUnsigned 32 10 text r → result_ok r ≡ number_of text
number_read {E} text r plain h =
    let P : Text → Type 0 = λ ds. Reads {E = E} ds r in
    digits_read text r (subst P (unsigned_text text plain) h)

-- a text that does not start with a plus
pub plus_false : (text : Text) → false ≡ starts_with (λ (x y : ℕ). x == y) text (43 ∷ []) → (slice_index text 0 == 43) ≡ false
plus_false [] e = refl
plus_false (c ∷ cs) e = elim (cases_Bool (c == 43)) [
  | inl same ↦
      let is : c ≡ 43 = eqb-true c 43 same in
      let bad : false ≡ true = rw is at e in
      cc
  | inr other ↦ other
]

-- whether a folder that was found is empty
pub folder_is : (first : Option Text) (folder : Text) (b : Bool) → Some folder ≡ first → b ≡ (length folder == 0) → b ≡ option_map_or (λ f. length f == 0) first false
folder_is first folder b found is = is ∙ ap (λ o. option_map_or (λ f. length f == 0) o false) found

pub folder_none : (first : Option Text) → None ≡ first → false ≡ option_map_or (λ f. length f == 0) first false
folder_none first found = ap (λ o. option_map_or (λ (f : Text). length f == 0) o false) found

-- the number given, by the text that a getter finds
pub given_none : (first : Option Text) → None ≡ first → Some None ≡ option_map_or (λ t. option_map (λ n. Some n) (number_of t)) first (Some None)
given_none first is = ap (λ o. option_map_or (λ t. option_map (λ n. Some n) (number_of t)) o (Some None)) is

pub given_some : (first : Option Text) (text : Text) (n : Option ℕ) → Some text ≡ first → n ≡ number_of text
    → option_map (λ n. Some n) n ≡ option_map_or (λ t. option_map (λ n. Some n) (number_of t)) first (Some None)
given_some first text n is read =
    ap (option_map (λ n. Some n)) read ∙ ap (λ o. option_map_or (λ t. option_map (λ n. Some n) (number_of t)) o (Some None)) is

-- the values, or none by default, after a loop has read them
pub unwrapped : (o : Option (Bor (List (Bor Text)))) (vs : Option (List Text)) → option_map (λ s. map (λ v. v.now) s.now) o ≡ vs
    → (result default : Bor (List (Bor Text))) → result ≡ unwrap_or o default → default.now ≡ []
    → (index : ℕ) → length result.now ≤ index → map (λ v. v.now) (take index result.now) ≡ unwrap_or vs []
unwrapped o vs is result default given none index past =
    ap (map (λ (v : Bor Text). v.now)) (take_all index result.now past) ∙ ap (λ (b : Bor (List (Bor Text))). map (λ v. v.now) b.now) given
    ∙ go o vs is
  where
    go : (q : Option (Bor (List (Bor Text)))) (ws : Option (List Text)) → option_map (λ s. map (λ v. v.now) s.now) q ≡ ws
        → map (λ v. v.now) (unwrap_or q default).now ≡ unwrap_or ws []
    go None ws e = ap (map (λ (v : Bor Text). v.now)) none ∙ ap (λ w. unwrap_or w []) e
    go (Some s) ws e = ap (λ w. unwrap_or w []) e
