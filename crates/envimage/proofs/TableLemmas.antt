-- The checksum by bytes: eight bits of the register at once.
use Rattle.std.proofs.Common.{◌≡◌, ℕ, zero, suc, ◌+◌, ◌*◌, ◌/◌, ◌%◌, ◌^◌, ◌<◌, ◌⊎◌, inl, inr, eqb, cond, List, [], ◌∷◌, length, map, fold, get_or, refl, sym, ap, subst, ◌∙◌, arith, add-zero, add-one, lit<}
use Rattle.std.proofs.lemmas.Bool.{cases_eq}
use Rattle.std.proofs.Math.Nat.{div-one, div-div-eq-div-mul}
use Rattle.std.proofs.lemmas.Grind.{pow_more}
use Rattle.std.proofs.lemmas.List.FromFn.{get_or-map-range_with_len, length-map-range_with_len}
use Rattle.std.proofs.lemmas.List.{get_or-map, length-map}
use Rattle.std.specs.List.{range_with_len}
use Rattle.std.specs.Int.Bits.{bit_and, bit_xor, and_mask, xor_shr, xor_mod, xor_assoc, xor_comm, xor_zero_r, xor_shifted}
use Rattle.envimage.specs.Crc.{after_bit, bits_of, after_zeros}
use Rattle.envimage.specs.declared.crc_tables.TheConstants.{TABLES}

-- the register after n bits that are 0
abbrev pub shifted : ℕ → ℕ → ℕ
shifted zero register = register
shifted (suc n) register = shifted n (after_bit register 0)

pub zero_or_one : (n : ℕ) → n < 2 → (n ≡ 0) ⊎ (n ≡ 1)
zero_or_one n h =
    elim (cases_eq n 0) [ inl e ↦ inl e | inr some ↦ inr (omega arith) ]

pub swap_xor : (a b c : ℕ) → bit_xor (bit_xor a b) c ≡ bit_xor (bit_xor a c) b
swap_xor a b c = xor_assoc a b c ∙ (ap (bit_xor a) (xor_comm b c) ∙ sym (xor_assoc a c b))

-- how two lowest bits compare
by_bits : (a b p q : ℕ) → p < 2 → q < 2 → cond (eqb (bit_xor p q) 0) (bit_xor a b) (bit_xor (bit_xor a b) 0xedb88320) ≡ bit_xor (cond (eqb p q) a (bit_xor a 0xedb88320)) b
by_bits a b p q hp hq =
    elim (zero_or_one p hp) [
      | inl p0 ↦ elim (zero_or_one q hq) [ inl q0 ↦ rw (p0, q0) refl | inr q1 ↦ rw (p0, q1) (swap_xor a b 0xedb88320) ]
      | inr p1 ↦ elim (zero_or_one q hq) [ inl q0 ↦ rw (p1, q0) (swap_xor a b 0xedb88320) | inr q1 ↦ rw (p1, q1) refl ]
    ]

-- a bit that is combined into the register first
shifted_xor : (s c : ℕ) → after_bit (bit_xor s c) 0 ≡ bit_xor (after_bit s (c % 2)) (c / 2)
shifted_xor s c =
    rw (xor_shr s c 1, xor_mod s c 1) (by_bits (s / 2) (c / 2) (s % 2) (c % 2) (omega arith) (omega arith))

halved : (c place : ℕ) → c / 2 ^ place / 2 ≡ c / 2 ^ (place + 1)
halved c place =
    div-div-eq-div-mul c (2 ^ place) 2 ∙ ap (λ k. c / k) (sym (pow_more 2 place))

-- the bit at a place of c
shifted_xor_at : (s c place : ℕ) → after_bit (bit_xor s (c / 2 ^ place)) 0 ≡ bit_xor (after_bit s (c / 2 ^ place % 2)) (c / 2 ^ (place + 1))
shifted_xor_at s c place =
    shifted_xor s (c / 2 ^ place) ∙ ap (bit_xor (after_bit s (c / 2 ^ place % 2))) (halved c place)

-- n bits of c, from a place on
shifted_many : (n s c place : ℕ) → shifted n (bit_xor s (c / 2 ^ place)) ≡ bit_xor (fold after_bit s (map (λ k. c / 2 ^ k % 2) (range_with_len place n))) (c / 2 ^ (place + n))
shifted_many zero s c place = ap (λ k. bit_xor s (c / 2 ^ k)) (sym (add-zero place))
shifted_many (suc n) s c place =
    ap (shifted n) (shifted_xor_at s c place)
    ∙ (shifted_many n (after_bit s (c / 2 ^ place % 2)) c (place + 1)
    ∙ ap (λ k. bit_xor (fold after_bit (after_bit s (c / 2 ^ place % 2)) (map (λ k. c / 2 ^ k % 2) (range_with_len (place + 1) n))) (c / 2 ^ k)) (omega arith))

shifted_bits : (s c : ℕ) → shifted 8 (bit_xor s c) ≡ bit_xor (fold after_bit s (bits_of c)) (c / 256)
shifted_bits s c = ap (λ d. shifted 8 (bit_xor s d)) (sym (div-one c)) ∙ shifted_many 8 s c 0

-- a byte is combined into the register at once
pub fold_byte : (register byte : ℕ) → byte < 256 → fold after_bit register (bits_of byte) ≡ shifted 8 (bit_xor register byte)
fold_byte register byte h =
    let none : byte / 256 ≡ 0 = omega arith in
    sym (shifted_bits register byte ∙ (ap (bit_xor (fold after_bit register (bits_of byte))) none ∙ xor_zero_r (fold after_bit register (bits_of byte))))

no_low_bits : (h : ℕ) → bits_of (h * 256) ≡ bits_of 0
no_low_bits h =
    let e0 : h * 256 / 1 % 2 ≡ 0 = omega arith in
    let e1 : h * 256 / 2 % 2 ≡ 0 = omega arith in
    let e2 : h * 256 / 4 % 2 ≡ 0 = omega arith in
    let e3 : h * 256 / 8 % 2 ≡ 0 = omega arith in
    let e4 : h * 256 / 16 % 2 ≡ 0 = omega arith in
    let e5 : h * 256 / 32 % 2 ≡ 0 = omega arith in
    let e6 : h * 256 / 64 % 2 ≡ 0 = omega arith in
    let e7 : h * 256 / 128 % 2 ≡ 0 = omega arith in
    cc

-- The low eight bits decide what the shift combines, and the others shift down.
pub shifted_split : (x : ℕ) → shifted 8 x ≡ bit_xor (shifted 8 (x % 256)) (x / 256)
shifted_split x =
    let h : ℕ = x / 256 in
    let split : bit_xor (x % 256) (h * 256) ≡ x = xor_comm (x % 256) (h * 256) ∙ (xor_shifted h 8 (x % 256) (omega arith) ∙ omega arith) in
    let high : h * 256 / 256 ≡ h = omega arith in
    sym (ap (shifted 8) split)
    ∙ (shifted_bits (x % 256) (h * 256)
    ∙ (ap (λ bits. bit_xor (fold after_bit (x % 256) bits) (h * 256 / 256)) (no_low_bits h)
    ∙ ap (bit_xor (shifted 8 (x % 256))) high))

-- this many tables: each but the first has the registers of the one before it after a byte that is 0
abbrev rows : ℕ → List ℕ → List (List ℕ)
rows zero row = []
rows (suc n) row = row ∷ rows n (map (shifted 8) row)

-- the tables' rule, computed
table_rule : rows 16 (map (shifted 8) (range_with_len 0 256)) ≡ TABLES
table_rule = refl

pub zeros_more : (n register : ℕ) → after_zeros (suc n) register ≡ after_zeros n (shifted 8 register)
unfolding after_zeros
zeros_more n register = ap (after_zeros n) (fold_byte register 0 (lit< tt) ∙ ap (shifted 8) (xor_zero_r register))

rows_at : (n k i : ℕ) (row : List ℕ) → k < n → i < length row → get_or (get_or (rows n row) k []) i 0 ≡ after_zeros k (get_or row i 0)
unfolding after_zeros
rows_at zero k i row h within = absurd (omega arith)
rows_at (suc n) zero i row h within = refl
rows_at (suc n) (suc k) i row h within =
    rows_at n k i (map (shifted 8) row) (omega arith) (rw length-map within)
    ∙ (ap (after_zeros k) (get_or-map (shifted 8) row i 0 0 within)
    ∙ sym (zeros_more k (get_or row i 0)))

pub table_at : (k i : ℕ) → k < 16 → i < 256 → get_or (get_or TABLES k []) i 0 ≡ after_zeros (k + 1) i
table_at k i hk h =
    let P : List (List ℕ) → Type 0 = λ tables. get_or (get_or tables k []) i 0 ≡ after_zeros (k + 1) i in
    let first : List ℕ = map (shifted 8) (range_with_len 0 256) in
    subst P table_rule
    (rows_at 16 k i first hk (rw length-map-range_with_len h)
    ∙ (ap (after_zeros k) (get_or-map-range_with_len (shifted 8) 0 256 i i 0 h (omega arith))
    ∙ (sym (zeros_more k i) ∙ ap (λ n. after_zeros n i) (sym (add-one k)))))

-- one step by the table
pub by_table : (register byte : ℕ) → byte < 256 → bit_xor (get_or (get_or TABLES 0 []) (bit_and (bit_xor register byte) 255) 0) (register / 256) ≡ fold after_bit register (bits_of byte)
unfolding after_zeros
by_table register byte h =
    let x : ℕ = bit_xor register byte in
    let low : bit_and x 255 ≡ x % 256 = and_mask x 8 in
    let none : byte / 256 ≡ 0 = omega arith in
    let high : x / 256 ≡ register / 256 = xor_shr register byte 8 ∙ (ap (bit_xor (register / 256)) none ∙ xor_zero_r (register / 256)) in
    ap (λ i. bit_xor (get_or (get_or TABLES 0 []) i 0) (register / 256)) low
    ∙ (ap (λ t. bit_xor t (register / 256)) (table_at 0 (x % 256) (lit< tt) (omega arith) ∙ zeros_more 0 (x % 256))
    ∙ (ap (bit_xor (shifted 8 (x % 256))) (sym high)
    ∙ (sym (shifted_split x) ∙ sym (fold_byte register byte h))))
