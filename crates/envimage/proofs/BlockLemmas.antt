-- The checksum by blocks: the step over bytes that are 0 is linear over exclusive or.
use Rattle.std.proofs.Common.{◌≡◌, ℕ, zero, suc, ◌+◌, ◌*◌, ◌/◌, ◌%◌, ◌^◌, ◌<◌, ◌≤◌, inl, inr, eqb, cond, List, [], ◌∷◌, length, fold, get_or, refl, sym, ap, ◌∙◌, arith, add-one, add-zero, take, drop, length-drop}
use Rattle.std.proofs.lemmas.List.{get_or-drop, drop-drop, drop_all}
use Rattle.std.specs.Simd.{first_chunks}
use Rattle.std.specs.Int.Bits.{bit_and, bit_xor, and_mask, xor_shr, xor_mod, xor_assoc, xor_comm, xor_zero_r, xor_self, xor_shifted}
use Rattle.envimage.specs.Crc.{after_bit, bits_of, register_after, after_zeros}
use Rattle.envimage.specs.declared.crc_tables.TheConstants.{TABLES}
use Rattle.envimage.proofs.CrcLemmas.{fold_blocks}
use Rattle.envimage.proofs.TableLemmas.{shifted, swap_xor, zero_or_one, fold_byte, shifted_split, zeros_more, table_at}

-- what both sides are combined with cancels
both : (a b c : ℕ) → bit_xor (bit_xor a c) (bit_xor b c) ≡ bit_xor a b
both a b c =
    xor_assoc a c (bit_xor b c)
    ∙ ap (bit_xor a) (ap (bit_xor c) (xor_comm b c) ∙ (sym (xor_assoc c c b) ∙ ap (λ n. bit_xor n b) (xor_self c)))

-- how two lowest bits combine
halves : (a b p q : ℕ) → p < 2 → q < 2 → cond (eqb (bit_xor p q) 0) (bit_xor a b) (bit_xor (bit_xor a b) 0xedb88320) ≡ bit_xor (cond (eqb p 0) a (bit_xor a 0xedb88320)) (cond (eqb q 0) b (bit_xor b 0xedb88320))
halves a b p q hp hq =
    elim (zero_or_one p hp) [
      | inl p0 ↦ elim (zero_or_one q hq) [ inl q0 ↦ rw (p0, q0) refl | inr q1 ↦ rw (p0, q1) (xor_assoc a b 0xedb88320) ]
      | inr p1 ↦ elim (zero_or_one q hq) [ inl q0 ↦ rw (p1, q0) (swap_xor a b 0xedb88320) | inr q1 ↦ rw (p1, q1) (sym (both a b 0xedb88320)) ]
    ]

bit_linear : (x y : ℕ) → after_bit (bit_xor x y) 0 ≡ bit_xor (after_bit x 0) (after_bit y 0)
bit_linear x y =
    rw (xor_shr x y 1, xor_mod x y 1) (halves (x / 2) (y / 2) (x % 2) (y % 2) (omega arith) (omega arith))

shifted_linear : (n x y : ℕ) → shifted n (bit_xor x y) ≡ bit_xor (shifted n x) (shifted n y)
shifted_linear zero x y = refl
shifted_linear (suc n) x y =
    ap (shifted n) (bit_linear x y) ∙ shifted_linear n (after_bit x 0) (after_bit y 0)

-- bytes that are 0 are linear over exclusive or
zeros_linear : (n x y : ℕ) → after_zeros n (bit_xor x y) ≡ bit_xor (after_zeros n x) (after_zeros n y)
unfolding after_zeros
zeros_linear zero x y = refl
zeros_linear (suc n) x y =
    zeros_more n (bit_xor x y)
    ∙ (ap (after_zeros n) (shifted_linear 8 x y)
    ∙ (zeros_linear n (shifted 8 x) (shifted 8 y)
    ∙ (ap (λ r. bit_xor r (after_zeros n (shifted 8 y))) (sym (zeros_more n x))
    ∙ ap (bit_xor (after_zeros (suc n) x)) (sym (zeros_more n y)))))

-- the low byte goes through this many bytes, and the others through one less
zeros_split : (n m x : ℕ) → n + 1 ≡ m → after_zeros m x ≡ bit_xor (after_zeros n (x / 256)) (after_zeros m (x % 256))
zeros_split n m x e =
    let more : suc n ≡ m = sym (add-one n) ∙ e in
    ap (λ k. after_zeros k x) (sym more)
    ∙ (zeros_more n x
    ∙ (ap (after_zeros n) (shifted_split x)
    ∙ (zeros_linear n (shifted 8 (x % 256)) (x / 256)
    ∙ (xor_comm (after_zeros n (shifted 8 (x % 256))) (after_zeros n (x / 256))
    ∙ ap (bit_xor (after_zeros n (x / 256))) (sym (zeros_more n (x % 256)) ∙ ap (λ k. after_zeros k (x % 256)) more)))))

-- four bytes, each through the bytes after it
joined : (register zeros a b c d : ℕ) → a ≡ after_zeros (zeros + 1) (register / 16777216) → b ≡ after_zeros (zeros + 2) (register / 65536 % 256) → c ≡ after_zeros (zeros + 3) (register / 256 % 256) → d ≡ after_zeros (zeros + 4) (register % 256) → bit_xor (bit_xor (bit_xor a b) c) d ≡ after_zeros (zeros + 4) register
joined register zeros a b c d ha hb hc hd =
    let q2 : register / 256 / 256 ≡ register / 65536 = omega arith in
    let q3 : register / 65536 / 256 ≡ register / 16777216 = omega arith in
    let s4 = zeros_split (zeros + 3) (zeros + 4) register (omega arith) in
    let s3 = zeros_split (zeros + 2) (zeros + 3) (register / 256) (omega arith) in
    let s2 = zeros_split (zeros + 1) (zeros + 2) (register / 65536) (omega arith) in
    cc

-- what table k says of the low byte
masked : (k m x : ℕ) → k < 16 → k + 1 ≡ m → get_or (get_or TABLES k []) (bit_and x 255) 0 ≡ after_zeros m (x % 256)
masked k m x h e =
    ap (λ i. get_or (get_or TABLES k []) i 0) (and_mask x 8) ∙ (table_at k (x % 256) h (omega arith) ∙ ap (λ n. after_zeros n (x % 256)) e)

-- a word by four tables
pub by_tables : (register zeros : ℕ) → zeros ≤ 12 → register < 2 ^ 32 → bit_xor (bit_xor (bit_xor (get_or (get_or TABLES zeros []) (register / 16777216) 0) (get_or (get_or TABLES (zeros + 1) []) (bit_and (register / 65536) 255) 0)) (get_or (get_or TABLES (zeros + 2) []) (bit_and (register / 256) 255) 0)) (get_or (get_or TABLES (zeros + 3) []) (bit_and register 255) 0) ≡ after_zeros (zeros + 4) register
by_tables register zeros hz hr =
    joined register zeros _ _ _ _
    (table_at zeros (register / 16777216) (omega arith) (omega arith))
    (masked (zeros + 1) (zeros + 2) (register / 65536) (omega arith) (omega arith))
    (masked (zeros + 2) (zeros + 3) (register / 256) (omega arith) (omega arith))
    (masked (zeros + 3) (zeros + 4) register (omega arith) (omega arith))

-- what is above the low byte shifts down
nothing_low : (h : ℕ) → shifted 8 (h * 256) ≡ h
nothing_low h =
    let low : h * 256 % 256 ≡ 0 = omega arith in
    let high : h * 256 / 256 ≡ h = omega arith in
    shifted_split (h * 256) ∙ (ap (λ n. bit_xor (shifted 8 n) (h * 256 / 256)) low ∙ high)

-- the register after a byte, which only the two lemmas below open
unfoldable after_one : ℕ → ℕ → ℕ
after_one register byte = fold after_bit register (bits_of byte)

by_bytes : (register : ℕ) (bytes : List ℕ) → fold after_one register bytes ≡ register_after register bytes
unfolding after_one
by_bytes register [] = refl
by_bytes register (b ∷ bs) = by_bytes (after_one register b) bs

-- A byte at the low end of what is combined into the register is used first, and the rest shifts down.
byte_first : (n m register b h : ℕ) → n + 1 ≡ m → b < 256 → after_zeros m (bit_xor register (b + h * 256)) ≡ after_zeros n (bit_xor (after_one register b) h)
unfolding after_one
byte_first n m register b h e hb =
    let split : b + h * 256 ≡ bit_xor b (h * 256) = omega arith ∙ (sym (xor_shifted h 8 b hb) ∙ xor_comm (h * 256) b) in
    ap (λ k. after_zeros k (bit_xor register (b + h * 256))) (sym e ∙ add-one n)
    ∙ (zeros_more n (bit_xor register (b + h * 256))
    ∙ ap (after_zeros n)
    (ap (λ k. shifted 8 (bit_xor register k)) split
    ∙ (ap (shifted 8) (sym (xor_assoc register b (h * 256)))
    ∙ (shifted_linear 8 (bit_xor register b) (h * 256)
    ∙ (ap (λ k. bit_xor k (shifted 8 (h * 256))) (sym (fold_byte register b hb))
    ∙ ap (bit_xor (after_one register b)) (nothing_low h))))))

-- the four bytes from a place on, the lowest first
abbrev word_at : List ℕ → ℕ → ℕ
word_at bytes i = get_or bytes i 0 + get_or bytes (i + 1) 0 * 256 + get_or bytes (i + 2) 0 * 65536 + get_or bytes (i + 3) 0 * 16777216

-- a word combined into the register is its four bytes
word_first : (n m register : ℕ) (bytes : List ℕ) → n + 4 ≡ m → 4 ≤ length bytes → ((i : ℕ) → get_or bytes i 0 < 256) → after_zeros m (bit_xor register (word_at bytes 0)) ≡ after_zeros n (register_after register (take 4 bytes))
word_first n m register [] e h small = absurd (omega arith)
word_first n m register (a ∷ []) e h small = absurd (omega arith)
word_first n m register (a ∷ b ∷ []) e h small = absurd (omega arith)
word_first n m register (a ∷ b ∷ c ∷ []) e h small = absurd (omega arith)
word_first n m register (a ∷ b ∷ c ∷ d ∷ rest) e h small =
    let r1 : ℕ = after_one register a in
    let r2 : ℕ = after_one r1 b in
    let r3 : ℕ = after_one r2 c in
    ap (λ w. after_zeros m (bit_xor register w)) (omega arith)
    ∙ (byte_first (n + 3) m register a (b + (c + (d + 0 * 256) * 256) * 256) (omega arith) (small 0)
    ∙ (byte_first (n + 2) (n + 3) r1 b (c + (d + 0 * 256) * 256) (omega arith) (small 1)
    ∙ (byte_first (n + 1) (n + 2) r2 c (d + 0 * 256) (omega arith) (small 2)
    ∙ (byte_first n (n + 1) r3 d 0 refl (small 3)
    ∙ ap (after_zeros n) (xor_zero_r (after_one r3 d) ∙ by_bytes register (a ∷ b ∷ c ∷ d ∷ []))))))

-- one more word beside what is combined already
word_more : (n m register place x : ℕ) (bytes : List ℕ) → n + 4 ≡ m → place + 4 ≤ length bytes → ((i : ℕ) → get_or bytes i 0 < 256) → bit_xor (bit_xor x (after_zeros m (word_at bytes place))) (after_zeros m register) ≡ bit_xor x (after_zeros n (register_after register (take 4 (drop place bytes))))
word_more n m register place x bytes e h small =
    let W : ℕ = word_at bytes place in
    let at : (i : ℕ) → get_or (drop place bytes) i 0 ≡ get_or bytes (place + i) 0 = λ i. get_or-drop place bytes i 0 in
    let at_0 : get_or (drop place bytes) 0 0 ≡ get_or bytes place 0 = at 0 ∙ ap (λ i. get_or bytes i 0) (add-zero place) in
    let same : word_at (drop place bytes) 0 ≡ W = omega (arith, at 1, at 2, at 3) in
    xor_assoc x (after_zeros m W) (after_zeros m register)
    ∙ ap (bit_xor x)
    (xor_comm (after_zeros m W) (after_zeros m register)
    ∙ (sym (zeros_linear m register W)
    ∙ (ap (λ w. after_zeros m (bit_xor register w)) (sym same)
    ∙ word_first n m register (drop place bytes) e (omega (arith, length-drop place bytes)) (λ i. rw (at i) (small (place + i))))))

-- four words in turn are the block
four_words : (register : ℕ) (block : List ℕ) → length block ≡ 16 → register_after (register_after (register_after (register_after register (take 4 block)) (take 4 (drop 4 block))) (take 4 (drop 8 block))) (take 4 (drop 12 block)) ≡ register_after register block
four_words register block h =
    let at_8 : drop 4 (drop 4 block) ≡ drop 8 block = drop-drop 4 4 block in
    let at_12 : drop 4 (drop 4 (drop 4 block)) ≡ drop 12 block = ap (drop 4) at_8 ∙ drop-drop 4 8 block in
    let none : drop 16 block ≡ [] = drop_all 16 block (omega arith) in
    let r2 : ℕ = register_after (register_after register (take 4 block)) (take 4 (drop 4 block)) in
    ap (λ b. register_after (register_after r2 (take 4 b)) (take 4 (drop 12 block))) (sym at_8)
    ∙ (ap (λ b. register_after (register_after r2 (take 4 (drop 4 (drop 4 block)))) (take 4 b)) (sym at_12)
    ∙ (ap (register_after (fold register_after register (first_chunks 4 4 block))) (sym none)
    ∙ fold_blocks 4 4 register block))

-- a block, word by word
pub by_block : (register : ℕ) (block : List ℕ) → length block ≡ 16 → ((i : ℕ) → get_or block i 0 < 256) → bit_xor (bit_xor (bit_xor (after_zeros 4 (word_at block 12)) (after_zeros 8 (word_at block 8))) (after_zeros 12 (word_at block 4))) (after_zeros 16 (bit_xor register (word_at block 0))) ≡ register_after register block
unfolding after_zeros
by_block register block h small =
    let r1 : ℕ = register_after register (take 4 block) in
    let r2 : ℕ = register_after r1 (take 4 (drop 4 block)) in
    let r3 : ℕ = register_after r2 (take 4 (drop 8 block)) in
    let w3 : ℕ = after_zeros 4 (word_at block 12) in
    let w2 : ℕ = bit_xor w3 (after_zeros 8 (word_at block 8)) in
    ap (bit_xor (bit_xor w2 (after_zeros 12 (word_at block 4)))) (word_first 12 16 register block refl (omega arith) small)
    ∙ (word_more 8 12 r1 4 w2 block refl (omega arith) small
    ∙ (word_more 4 8 r2 8 w3 block refl (omega arith) small
    ∙ (word_more 0 4 r3 12 0 block refl (omega arith) small
    ∙ four_words register block h)))
