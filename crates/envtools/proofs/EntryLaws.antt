-- The bytes of an entry, and where the entries are cut.
use Rattle.std.proofs.Common.{◌≡◌, ◌≢◌, ◌≤◌, ◌<◌, ◌+◌, ◌/◌, ◌%◌, ◌&&◌, ◌⊎◌, inl, inr, ℕ, Bool, true, false, cond, List, [], ◌∷◌, ◌++◌, codes, refl, sym, ap, ◌∙◌, append_assoc, arith, lit≤}
use Rattle.std.specs.Prelude.{if◌then◌else◌, nat_eq, nat_le, nat_lt}
use Rattle.std.specs.List.{AllByRecursion, flat_map}
use Rattle.std.proofs.lemmas.Bool.{cases_Bool}
use Rattle.std.proofs.lemmas.Bool.Decides.{nat_tests}
use Rattle.text.specs.Escapes.{escaped, hex_digit, text_form, word_escaped, word_form}
use Rattle.envimage.specs.Data.{Pair, IsVariable}
use Rattle.envimage.proofs.LawLemmas.{all-append, name-nul}
use Rattle.envtools.specs.Printing.{IsPrintable, EntriesStandApart, EscapedIsPrintable, bare_line, end_byte, end_of, header_of, line, shown_value, texts_ended_by}
use Rattle.envtools.specs.declared.print_form.PrintForm.{PrintForm}

within : (b : ℕ) → (nat_le 32 b && nat_le b 126) ≡ true → IsPrintable b
within b e = (grind (arith, nat_tests), grind (arith, nat_tests))

digit_low : (d : ℕ) → 32 ≤ hex_digit d
digit_low d = by (nat_lt d 10)
  where
    by : (test : Bool) → 32 ≤ cond test (48 + d) (87 + d)
    by true = omega arith
    by false = omega arith

digit_high : (d : ℕ) → d < 16 → hex_digit d ≤ 126
digit_high d h = by (nat_lt d 10)
  where
    by : (test : Bool) → cond test (48 + d) (87 + d) ≤ 126
    by true = omega arith
    by false = omega arith

-- what holds of printable bytes and of the digits of each byte of this kind holds of all that is printed of such bytes
module _ (P Q : ℕ → Type 0) (inside : (b : ℕ) → 32 ≤ b → b ≤ 126 → P b) (digits : (b : ℕ) → Q b → P (hex_digit (b / 16)) × P (hex_digit (b % 16))) where
  escaped_all : (b : ℕ) → Q b → AllByRecursion P (escaped b)
  escaped_all b q = by (nat_eq b 10) (nat_eq b 92) (nat_le 32 b && nat_le b 126) (λ e. inside b (within b e).0 (within b e).1)
    where
      backslash : P 92
      backslash = inside 92 (lit≤ tt) (lit≤ tt)

      by : (is_newline is_backslash is_plain : Bool) → (is_plain ≡ true → P b)
          → AllByRecursion P (cond is_newline (codes "\\n") (cond is_backslash (codes "\\\\") (cond is_plain (b ∷ []) (codes "\\x" ++ hex_digit (b / 16) ∷ hex_digit (b % 16) ∷ []))))
      by true s t plain = (backslash, (inside 110 (lit≤ tt) (lit≤ tt), tt))
      by false true t plain = (backslash, (backslash, tt))
      by false false true plain = (plain refl, tt)
      by false false false plain = (backslash, (inside 120 (lit≤ tt) (lit≤ tt), ((digits b q).0, ((digits b q).1, tt))))

  word_escaped_all : (b : ℕ) → Q b → AllByRecursion P (word_escaped b)
  word_escaped_all b q = by (nat_eq b 32)
    where
      by : (is_space : Bool) → AllByRecursion P (cond is_space (codes "\\x20") (escaped b))
      by true = (inside 92 (lit≤ tt) (lit≤ tt), (inside 120 (lit≤ tt) (lit≤ tt), (inside 50 (lit≤ tt) (lit≤ tt), (inside 48 (lit≤ tt) (lit≤ tt), tt))))
      by false = escaped_all b q

  text_all : (bytes : List ℕ) → AllByRecursion Q bytes → AllByRecursion P (text_form bytes)
  text_all [] all = tt
  text_all (b ∷ bytes) all = all-append P (escaped b) (text_form bytes) (escaped_all b all.0) (text_all bytes all.1)

  word_bytes_all : (bytes : List ℕ) → AllByRecursion Q bytes → AllByRecursion P (flat_map word_escaped bytes)
  word_bytes_all [] all = tt
  word_bytes_all (b ∷ bytes) all = all-append P (word_escaped b) (flat_map word_escaped bytes) (word_escaped_all b all.0) (word_bytes_all bytes all.1)

  word_all : (bytes : List ℕ) → AllByRecursion Q bytes → AllByRecursion P (word_form bytes)
  word_all [] all = (inside 92 (lit≤ tt) (lit≤ tt), (inside 101 (lit≤ tt) (lit≤ tt), tt))
  word_all (b ∷ bytes) all = word_bytes_all (b ∷ bytes) all

  bare_all : (form : PrintForm) (p : Pair) → form.escaped ≡ true → AllByRecursion Q p.0 → AllByRecursion Q p.1 → AllByRecursion P (bare_line form p)
  bare_all form p e name value =
      rw e (all-append P (if form.header then word_form p.0 ++ codes "=" else []) (text_form p.1) (by form.header) (text_all p.1 value))
    where
      by : (is_there : Bool) → AllByRecursion P (if is_there then word_form p.0 ++ codes "=" else [])
      by true = all-append P (word_form p.0) (codes "=") (word_all p.0 name) (inside 61 (lit≤ tt) (lit≤ tt), tt)
      by false = tt

pub escaped_is_printable : EscapedIsPrintable
escaped_is_printable form p e name value =
    bare_all IsPrintable (λ b. b < 256) (λ b low high. (low, high))
    (λ b h. ((digit_low (b / 16), digit_high (b / 16) (omega arith)), (digit_low (b % 16), digit_high (b % 16) (omega arith))))
    form p e name value

-- ---- where the entries are cut

end_low : (form : PrintForm) → end_byte form < 32
end_low form = by form.null
  where
    by : (null : Bool) → (if null then 0 else 10) < 32
    by true = omega arith
    by false = omega arith

anything : (bytes : List ℕ) → AllByRecursion (λ b. Unit {0}) bytes
anything [] = tt
anything (b ∷ bytes) = (tt, anything bytes)

-- an escaped entry does not hold its end
apart_escaped : (form : PrintForm) (p : Pair) → form.escaped ≡ true → AllByRecursion (λ b. b ≢ end_byte form) (bare_line form p)
apart_escaped form p e =
    bare_all (λ b. b ≢ end_byte form) (λ b. Unit {0}) (λ b low high. other b low) (λ b h. (other _ (digit_low (b / 16)), other _ (digit_low (b % 16)))) form p e (anything p.0) (anything p.1)
  where
    other : (b : ℕ) → 32 ≤ b → b ≢ end_byte form
    other b low = let end = end_low form in λ same. omega arith

-- an entry as it is holds no NUL byte
apart_plain : (form : PrintForm) (p : Pair) → form.escaped ≡ false → IsVariable p → AllByRecursion (λ b. b ≢ 0) (bare_line form p)
apart_plain form p e v =
    rw e (all-append (λ b. b ≢ 0) (if form.header then p.0 ++ codes "=" else []) p.1 (by form.header) v.value)
  where
    by : (is_there : Bool) → AllByRecursion (λ b. b ≢ 0) (if is_there then p.0 ++ codes "=" else [])
    by true = all-append (λ b. b ≢ 0) p.0 (codes "=") (name-nul p.0 v.name) ((λ same. omega arith), tt)
    by false = tt

apart : (form : PrintForm) (p : Pair) → (form.escaped ≡ true) ⊎ (form.null ≡ true) → IsVariable p → AllByRecursion (λ b. b ≢ end_byte form) (bare_line form p)
apart form p (inl e) v = apart_escaped form p e
apart form p (inr null) v =
    elim (cases_Bool form.escaped) [
      | inl e ↦ apart_escaped form p e
      | inr e ↦ rw null (apart_plain form p e v)
    ]

-- a text without the end is cut off in front of it
texts_ended_by-text : (end : ℕ) (text rest : List ℕ) → AllByRecursion (λ b. b ≢ end) text → texts_ended_by end (text ++ end ∷ rest) ≡ text ∷ texts_ended_by end rest
texts_ended_by-text end [] rest all =
    let same : nat_eq end end ≡ true = grind (arith, nat_tests) in
    rw same refl
texts_ended_by-text end (b ∷ text) rest all =
    let other : nat_eq b end ≡ false = grind (arith, nat_tests, all.0) in
    rw (other, texts_ended_by-text end text rest all.1) refl

line-rest : (form : PrintForm) (p : Pair) (rest : List ℕ) → line form p ++ rest ≡ bare_line form p ++ (end_byte form ∷ rest)
line-rest form p rest =
    let header = header_of form p.0 in
    let value = shown_value form p.1 in
    append_assoc header (value ++ end_of form) rest ∙ (ap (λ t. header ++ t) (append_assoc value (end_of form) rest) ∙ sym (append_assoc header value (end_byte form ∷ rest)))

pub entries_stand_apart : EntriesStandApart
entries_stand_apart form [] which all = refl
entries_stand_apart form (p ∷ ps) which all =
    ap (texts_ended_by (end_byte form)) (line-rest form p (flat_map (line form) ps))
    ∙ (texts_ended_by-text (end_byte form) (bare_line form p) (flat_map (line form) ps) (apart form p which all.0)
    ∙ ap (λ texts. bare_line form p ∷ texts) (entries_stand_apart form ps which all.1))
