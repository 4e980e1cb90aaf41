-- The boot counter, raised, read again and held against its limit.
use Rattle.std.proofs.Common.{◌≡◌, ◌∙◌, ℕ, zero, suc, ◌+◌, ◌*◌, ◌<◌, ◌%◌, ◌^◌, ltb, ◌==◌, ◌&&◌, ◌||◌, not, Bool, true, false, cond, List, [], ◌∷◌, ◌++◌, Option, Some, None, map, filter, fold, get_or, length, codes, refl, sym, ap, subst, inl, inr, arith}
use Rattle.std.proofs.Math.Nat.{mod-eq_of_lt, mod-lt}
use Rattle.std.proofs.lemmas.Bool.{lt-ltb, ltb-true}
use Rattle.std.proofs.lemmas.Bool.Decides.{eqb_tells}
use Rattle.std.proofs.lemmas.Fmt.{decimal-digits_of, decimal_nonempty}
use Rattle.std.proofs.lemmas.Int.Digits.{all_below_base_digits_of, first_digits_of, number_digits_of}
use Rattle.std.proofs.lemmas.List.Sums.{take_while-cons}
use Rattle.std.proofs.lemmas.Slice.Eq.{bytes_eq-Decides}
use Rattle.std.specs.Prelude.{decimal}
use Rattle.std.specs.Fmt.{digits}
use Rattle.std.specs.Int.Digits.{AllBelowBase, digits_of, number_from_digits, number_from_digits_after}
use Rattle.std.specs.List.{list_any, take_while}
use Rattle.text.specs.Lines.{Text}
use Rattle.text.specs.Numbers.{digit_of, value_in}
use Rattle.text.specs.Words.{has_nul}
use Rattle.envimage.specs.Data.{Pair}
use Rattle.envtools.specs.Changes.{with_change}
use Rattle.envtools.specs.Environment.{same, value_of, dropped, put, has_value, changed_to, is_name, is_value}
use Rattle.commands.specs.Hexadecimal.{in_word}
use Rattle.commands.specs.UBootExit.{leading_number}
use Rattle.commands.specs.Verdict.{begins_hexadecimal, behind_first, read_in}
use Rattle.board_start.specs.Counter.{Counter, number_of, number_in, is_upgrade, count_in, raised, is_passed, text_in, asked_in, raised_in, saves_in}
use Rattle.board_start.specs.Start.{Start, begun_in, begun_given}
use Rattle.board_start.specs.StartLaws.{AlternativeBeyondTheLimit, IsApart, is_beyond}

-- ---- decimal digits, read again

digit-read : (d : ℕ) → d < 10 → digit_of (48 + d) ≡ d
digit-read zero h = refl
digit-read (suc zero) h = refl
digit-read (suc (suc zero)) h = refl
digit-read (suc (suc (suc zero))) h = refl
digit-read (suc (suc (suc (suc zero)))) h = refl
digit-read (suc (suc (suc (suc (suc zero))))) h = refl
digit-read (suc (suc (suc (suc (suc (suc zero)))))) h = refl
digit-read (suc (suc (suc (suc (suc (suc (suc zero))))))) h = refl
digit-read (suc (suc (suc (suc (suc (suc (suc (suc zero)))))))) h = refl
digit-read (suc (suc (suc (suc (suc (suc (suc (suc (suc zero))))))))) h = refl
digit-read (suc (suc (suc (suc (suc (suc (suc (suc (suc (suc d)))))))))) h = absurd (omega arith)

abbrev bytes_of : List ℕ → Text
bytes_of digits = map (λ d. 48 + d) digits

abbrev more : ℕ → ℕ → ℕ
more number b = number * 10 + digit_of b

spelled : (n : ℕ) (ds : List ℕ) → AllBelowBase 10 ds → fold more n (bytes_of ds) ≡ number_from_digits_after 10 n ds
spelled n [] all = refl
spelled n (d ∷ ds) all = ap (λ m. fold more (n * 10 + m) (bytes_of ds)) (digit-read d all.0) ∙ spelled (n * 10 + d) ds all.1

abbrev is_decimal : ℕ → Bool
is_decimal b = ltb (digit_of b) 10

decimal-byte : (d : ℕ) → d < 10 → is_decimal (48 + d) ≡ true
decimal-byte d h = ap (λ m. ltb m 10) (digit-read d h) ∙ lt-ltb d 10 h

all-taken : (ds : List ℕ) → AllBelowBase 10 ds → take_while is_decimal (bytes_of ds) ≡ bytes_of ds
all-taken [] all = refl
all-taken (d ∷ ds) all =
    take_while-cons is_decimal (48 + d) (bytes_of ds)
    ∙ (ap (λ b. cond b ((48 + d) ∷ take_while is_decimal (bytes_of ds)) []) (decimal-byte d all.0)
    ∙ ap (λ bs. (48 + d) ∷ bs) (all-taken ds all.1))

no-zero : (d : ℕ) → 0 < d → ((48 + d) == 48) ≡ false
no-zero d some = elim (eqb_tells (48 + d) 48) [ inl h ↦ absurd (let e = h.1 in omega (arith, some)) | inr h ↦ h.0 ]

digits-read : (ds : List ℕ) → AllBelowBase 10 ds → 0 < get_or ds 0 0 → leading_number (bytes_of ds) ≡ number_from_digits 10 ds
digits-read [] all some = absurd (omega (arith, some))
digits-read (d ∷ ds) all some =
    ap (λ b. cond (b && begins_hexadecimal (bytes_of ds)) (read_in 16 (behind_first (bytes_of ds))) (read_in 10 (bytes_of (d ∷ ds)))) (no-zero d some)
    ∙ (ap (value_in 10) (all-taken (d ∷ ds) all) ∙ spelled 0 (d ∷ ds) all)

exit-read : (n : ℕ) → n < 2 ^ 64 → leading_number (decimal n) ≡ n
unfolding digits
exit-read zero small = refl
exit-read (suc n) small =
    let some : 0 < suc n = omega arith in
    ap leading_number (decimal-digits_of (suc n) some small)
    ∙ (digits-read (digits_of 10 (suc n)) (all_below_base_digits_of 10 (suc n) (omega arith)) (first_digits_of 10 (suc n) (omega arith) some)
    ∙ number_digits_of 10 (suc n) (omega arith))

number-read : (n : ℕ) → n < 2 ^ 64 → number_of (decimal n) ≡ n
number-read n small = ap in_word (exit-read n small) ∙ mod-eq_of_lt small

-- ---- a variable that was changed, and the others

found-put : (ps : List Pair) (name value : Text) → value_of (put ps name value) name ≡ Some value
found-put [] name value = ap (λ b. cond b (Some value) None) ((bytes_eq-Decides name name).1 refl)
found-put (p ∷ ps) name value = by (same name p.0) refl (found-put ps name value)
  where
    by : (b : Bool) → same name p.0 ≡ b → value_of (put ps name value) name ≡ Some value
        → value_of (cond (not b) (p ∷ dropped ps name) (dropped ps name) ++ (name, value) ∷ []) name ≡ Some value
    by true e rest = rest
    by false e rest = ap (λ b. cond b (Some p.1) (value_of (put ps name value) name)) e ∙ rest

others-put : (ps : List Pair) (name value other : Text) → same other name ≡ false → value_of (put ps name value) other ≡ value_of ps other
others-put [] name value other apart = ap (λ b. cond b (Some value) None) apart
others-put (p ∷ ps) name value other apart = by (same name p.0) refl (others-put ps name value other apart)
  where
    by : (b : Bool) → same name p.0 ≡ b → value_of (put ps name value) other ≡ value_of ps other
        → value_of (cond (not b) (p ∷ dropped ps name) (dropped ps name) ++ (name, value) ∷ []) other ≡ cond (same other p.0) (Some p.1) (value_of ps other)
    by true e rest =
        let here : name ≡ p.0 = (bytes_eq-Decides name p.0).0 e in
        rest ∙ sym (ap (λ b. cond b (Some p.1) (value_of ps other)) (subst (λ (n : Text). same other n ≡ false) here apart))
    by false e rest = ap (λ v. cond (same other p.0) (Some p.1) v) rest

found-there : (ps : List Pair) (name value : Text) → has_value ps name value ≡ true → value_of ps name ≡ Some value
found-there ps name value has = by (value_of ps name) refl
  where
    by : (found : Option Text) → value_of ps name ≡ found → value_of ps name ≡ Some value
    by None e = let f : has_value ps name value ≡ false = rw e refl in absurd (let g = sym f ∙ has in cc)
    by (Some present) e =
        let f : has_value ps name value ≡ same present value = rw e refl in
        e ∙ ap Some ((bytes_eq-Decides present value).0 (sym f ∙ has))

changed-to : (ps : List Pair) (name value : Text) → 0 < length value → value_of (changed_to ps name value) name ≡ Some value
changed-to ps name [] some = absurd (omega (arith, some))
changed-to ps name (b ∷ bs) some = by (has_value ps name (b ∷ bs)) refl
  where
    by : (has : Bool) → has_value ps name (b ∷ bs) ≡ has → value_of (cond has ps (put ps name (b ∷ bs))) name ≡ Some (b ∷ bs)
    by true e = found-there ps name (b ∷ bs) e
    by false e = found-put ps name (b ∷ bs)

others-changed-to : (ps : List Pair) (name value other : Text) → 0 < length value → same other name ≡ false → value_of (changed_to ps name value) other ≡ value_of ps other
others-changed-to ps name [] other some apart = absurd (omega (arith, some))
others-changed-to ps name (b ∷ bs) other some apart = by (has_value ps name (b ∷ bs))
  where
    by : (has : Bool) → value_of (cond has ps (put ps name (b ∷ bs))) other ≡ value_of ps other
    by true = refl
    by false = others-put ps name (b ∷ bs) other apart

-- ---- the raised counter

no-nul : (ds : List ℕ) → has_nul (bytes_of ds) ≡ false
no-nul [] = refl
no-nul (d ∷ ds) = elim (eqb_tells (48 + d) 0) [ inl h ↦ absurd (let e = h.1 in omega arith) | inr h ↦ ap (λ b. b || has_nul (bytes_of ds)) h.0 ∙ no-nul ds ]

decimal-value : (n : ℕ) → n < 2 ^ 64 → is_value (decimal n) ≡ true
unfolding digits
decimal-value zero small = refl
decimal-value (suc n) small = ap is_value (decimal-digits_of (suc n) (omega arith) small) ∙ ap not (no-nul (digits_of 10 (suc n)))

-- a variable that is set to a number
abbrev numbered : List Pair → Text → ℕ → List Pair
numbered ps name n = with_change ps (name, decimal n)

changes : (ps : List Pair) (name : Text) (n : ℕ) → is_name name ≡ true → n < 2 ^ 64 → numbered ps name n ≡ changed_to ps name (decimal n)
changes ps name n named small =
    ap (λ b. cond (b && is_value (decimal n)) (changed_to ps name (decimal n)) ps) named
    ∙ ap (λ b. cond b (changed_to ps name (decimal n)) ps) (decimal-value n small)

abbrev number_or_zero : Option Text → ℕ
number_or_zero found = elim found [ None ↦ 0 | Some value ↦ number_of value ]

number-there : (ps : List Pair) (name : Text) (n : ℕ) → is_name name ≡ true → n < 2 ^ 64 → number_in (numbered ps name n) name ≡ n
number-there ps name n named small =
    ap (λ (e : List Pair). number_in e name) (changes ps name n named small)
    ∙ (ap number_or_zero (changed-to ps name (decimal n) (decimal_nonempty n small)) ∙ number-read n small)

number-elsewhere : (ps : List Pair) (name other : Text) (n : ℕ) → is_name name ≡ true → n < 2 ^ 64 → same other name ≡ false → number_in (numbered ps name n) other ≡ number_in ps other
number-elsewhere ps name other n named small apart =
    ap (λ (e : List Pair). number_in e other) (changes ps name n named small)
    ∙ ap number_or_zero (others-changed-to ps name (decimal n) other (decimal_nonempty n small) apart)

-- ---- the limit

abbrev counted : (upgrade : Bool) → ℕ → ℕ
counted upgrade n = cond upgrade n 0

-- whether the limit is passed, by the numbers
abbrev beyond : (upgrade : Bool) → (limit count : ℕ) → Bool
beyond upgrade limit count = not (limit == 0) && ltb limit (counted upgrade count)

not-below-zero : (b : Bool) (limit : ℕ) → (b && ltb limit 0) ≡ false
not-below-zero false limit = refl
not-below-zero true limit = by (ltb limit 0) refl
  where
    by : (r : Bool) → ltb limit 0 ≡ r → r ≡ false
    by true e = absurd (let h = ltb-true limit 0 e in omega (arith, h))
    by false e = refl

by-update : (upgrade : Bool) (limit count : ℕ) → beyond upgrade limit (in_word (counted upgrade count + 1)) ≡ (upgrade && (not (limit == 0) && ltb limit (in_word (count + 1))))
by-update true limit count = refl
by-update false limit count = not-below-zero (not (limit == 0)) limit

passed-is : (counter : Counter) (given : List Pair) → IsApart counter → is_passed counter (raised counter given) ≡ is_beyond counter given
passed-is counter given apart =
    let next : ℕ = in_word (count_in counter given + 1) in
    let small : next < 2 ^ 64 = mod-lt (count_in counter given + 1) (omega arith) in
    let limit : number_in (raised counter given) counter.limit ≡ number_in given counter.limit =
    number-elsewhere given counter.counter counter.limit next apart.named small apart.no_limit in
    let upgrade : is_upgrade (raised counter given) ≡ is_upgrade given =
    ap (λ n. not (n % 2 ^ 32 == 0)) (number-elsewhere given counter.counter (codes "upgrade_available") next apart.named small apart.no_upgrade) in
    let count : number_in (raised counter given) counter.counter ≡ next = number-there given counter.counter next apart.named small in
    ap (λ l. beyond (is_upgrade (raised counter given)) l (number_in (raised counter given) counter.counter)) limit
    ∙ (ap (λ u. beyond u (number_in given counter.limit) (number_in (raised counter given) counter.counter)) upgrade
    ∙ (ap (λ n. beyond (is_upgrade given) (number_in given counter.limit) n) count
    ∙ by-update (is_upgrade given) (number_in given counter.limit) (number_in given counter.counter)))

begun-with : (start : Start) (counter : Option Counter) (given : List Pair) (name : Text) (text : Option Text) → start.counter ≡ counter
    → begun_given start given name text ≡ begun_in (raised_in counter given) (saves_in counter given) start.before name (asked_in counter (raised_in counter given) text)
begun-with start counter given name text is =
    ap (λ (c : Option Counter). begun_in (raised_in c given) (saves_in c given) start.before name (asked_in c (raised_in c given) text)) is

pub alternative_beyond_the_limit : AlternativeBeyondTheLimit
alternative_beyond_the_limit start counter given name text is apart =
    begun-with start (Some counter) given name text is
    ∙ ap (λ (b : Bool). begun_in (raised counter given) (is_upgrade given) start.before name (cond b (Some (text_in (raised counter given) counter.alternative)) text)) (passed-is counter given apart)
