-- What is found in one more step of a pass over bytes.
use Rattle.std.proofs.Common.{◌≡◌, ◌∙◌, ◌*◌, ◌+◌, ◌≤◌, ℕ, Bool, true, false, cond, refl, sym, ap, List, [], ◌∷◌, ◌++◌, append-nil, arith, drop, filter, fold, map, take}
use Rattle.std.specs.Prelude.{◌==◌, ◌&&◌}
use Rattle.std.proofs.lemmas.List.{drop-take, take-take}
use Rattle.std.proofs.lemmas.List.FromFn.{filter_of_map_range_with_len_more}
use Rattle.std.specs.Int.{from_be_bytes, from_le_bytes, w32}
use Rattle.std.specs.Int.Bits.{bit_xor}
use Rattle.std.specs.List.{range_with_len}
use Rattle.envimage.specs.Crc.{after_byte, crc, register_after}
use Rattle.envimage.specs.Image.{stored}
use Rattle.envimage.specs.declared.image.ByteOrder.{ByteOrder}
use Rattle.envimage.specs.declared.image.ByteOrder.TheVariants.{Big, Little}
use Rattle.inspecting.specs.Guesses.{is_image, is_start}
use Rattle.inspecting.specs.Report.{has_no_fault, header_of}

-- one more number that passes, or does not
one-more : (p : ℕ → Bool) (f : ℕ → ℕ) (a n j : ℕ) (b : Bool) (xs : List ℕ) → a + n ≡ j → p (f j) ≡ b → xs ≡ filter p (map f (range_with_len a n))
    → cond b (xs ++ f j ∷ []) xs ≡ filter p (map f (range_with_len a (n + 1)))
one-more p f a n j true xs at passes are = rw are (sym (filter_of_map_range_with_len_more p f a n j at ∙ rw passes refl))
one-more p f a n j false xs at passes are =
    are ∙ sym (filter_of_map_range_with_len_more p f a n j at ∙ (rw passes refl ∙ append-nil (filter p (map f (range_with_len a n)))))

-- ---- sizes

-- bit by bit is byte by byte
by-bytes : (register : ℕ) (bytes : List ℕ) → fold after_byte register bytes ≡ register_after register bytes
by-bytes register [] = refl
by-bytes register (b ∷ bs) = by-bytes (after_byte register b) bs

-- the checksum that the first bytes start with
stored-front : (order : ByteOrder) (size : ℕ) (bytes : List ℕ) → 4 ≤ size → stored order (take size bytes) ≡ stored order bytes
stored-front Little size bytes h = ap (from_le_bytes w32) (take-take 4 size bytes h)
stored-front Big size bytes h = ap (from_be_bytes w32) (take-take 4 size bytes h)

least : (is_copy : Bool) → 4 ≤ header_of is_copy
least false = omega arith
least true = omega arith

-- whether the first bytes are an image, by the register
image-by : (order : ByteOrder) (is_copy : Bool) (bytes : List ℕ) (n register : ℕ) → register ≡ fold after_byte 4294967295 (take n (drop (header_of is_copy) bytes))
    → is_image order is_copy (take (header_of is_copy + n) bytes)
    ≡ ((stored order bytes == bit_xor register 4294967295) && has_no_fault (take n (drop (header_of is_copy) bytes)))
image-by order is_copy bytes n register h =
    let h4 : 4 ≤ header_of is_copy = least is_copy in
    let front : stored order (take (header_of is_copy + n) bytes) ≡ stored order bytes = stored-front order (header_of is_copy + n) bytes (omega (arith, h4)) in
    let sum : crc (take n (drop (header_of is_copy) bytes)) ≡ bit_xor register 4294967295 = sym (ap (λ r. bit_xor r 4294967295) (h ∙ by-bytes 4294967295 (take n (drop (header_of is_copy) bytes)))) in
    rw (front, drop-take (header_of is_copy) n bytes, sum) refl

-- one more byte
pub next-size : (order : ByteOrder) (is_copy : Bool) (bytes : List ℕ) (n register : ℕ) (b : Bool) (xs : List ℕ)
    → register ≡ fold after_byte 4294967295 (take (1 + n) (drop (header_of is_copy) bytes))
    → b ≡ ((stored order bytes == bit_xor register 4294967295) && has_no_fault (take (1 + n) (drop (header_of is_copy) bytes)))
    → xs ≡ filter (λ size. is_image order is_copy (take size bytes)) (map (λ n. header_of is_copy + n) (range_with_len 1 n))
    → cond b (xs ++ (header_of is_copy + (1 + n)) ∷ []) xs ≡ filter (λ size. is_image order is_copy (take size bytes)) (map (λ n. header_of is_copy + n) (range_with_len 1 (n + 1)))
next-size order is_copy bytes n register b xs h is are =
    one-more (λ size. is_image order is_copy (take size bytes)) (λ n. header_of is_copy + n) 1 n (1 + n) b xs refl (image-by order is_copy bytes (1 + n) register h ∙ sym is) are

-- ---- places

-- one more block
pub next-start : (bytes : List ℕ) (block : ℕ) (b : Bool) (xs : List ℕ) → b ≡ is_start (drop (block * 512) bytes)
    → xs ≡ filter (λ offset. is_start (drop offset bytes)) (map (λ block. block * 512) (range_with_len 0 block))
    → cond b (xs ++ (block * 512) ∷ []) xs ≡ filter (λ offset. is_start (drop offset bytes)) (map (λ block. block * 512) (range_with_len 0 (block + 1)))
next-start bytes block b xs is are = one-more (λ offset. is_start (drop offset bytes)) (λ block. block * 512) 0 block block b xs (omega arith) (sym is) are
