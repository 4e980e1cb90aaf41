use Rattle.std.proofs.lemmas.List.{take_rest}
use Rattle.std.proofs.lemmas.List.Sums.{fold_more}
use Rattle.std.proofs.Common.{◌≡◌, ◌∙◌, ◌+◌, ◌-◌, ◌++◌, ◌∷◌, [], List, ℕ, ◌<◌, get_or, length, refl, subst, ap, arith, drop, false, fold, sym, take, true}
use Rattle.std.specs.Prelude.{◌==◌, ◌&&◌}
use Rattle.std.specs.Int.Bits.{bit_xor}
use Rattle.envimage.specs.Crc.{after_byte}
use Rattle.envimage.specs.Image.{stored}
use Rattle.envimage.specs.declared.image.ByteOrder.TheVariants.{Big, Little}
use Rattle.inspecting.proofs.GuessLemmas.{next-size}
use Rattle.inspecting.proofs.guessing.right_sizes.Goals.{then-is_found+in_ok-push, else-is_found, then-is_found-2+in_ok-push-2, else-is_found-2}
use Rattle.inspecting.proofs.guessing.right_sizes.Goals as goal
use Rattle.inspecting.specs.Report.{has_no_fault, header_of}

pub loop-byte-preserved : goal.loop-byte-preserved
loop-byte-preserved c =
    let is_copy = c.args.is_copy in
    let bytes = c.args.bytes.now in
    let n = c.loop-byte.byte-index in
    let body = drop (header_of is_copy) bytes in
    let items : List ℕ = take (length bytes - c.header_of-header.result) (drop c.header_of-header.result bytes) in
    let same : items ≡ body = take_rest bytes c.header_of-header.result ∙ ap (λ k. drop k bytes) c.header_of-header.ensures in
    let within : n < length body = subst (λ (xs : List ℕ). n < length xs) same c.loop-byte-test.true in
    let step : c.after_byte-register.result ≡ after_byte c.loop-byte.register (get_or items n 0) = c.after_byte-register.ensures in
    let register : c.after_byte-register.result ≡ fold after_byte 4294967295 (take (n + 1) body) =
    step ∙ ((λ i. after_byte (c.loop-byte.invariant.register i) (get_or (same i) n 0)) ∙ sym (fold_more after_byte 4294967295 body n 0 within)) in
    let more : c.after_byte-register.result ≡ fold after_byte 4294967295 (take (1 + n) (drop (header_of is_copy) bytes)) = register ∙ ap (λ k. fold after_byte 4294967295 (take k (drop (header_of is_copy) bytes))) (omega arith) in
    let size : c.loop-byte.size + 1 ≡ header_of is_copy + (n + 1) = omega (arith, c.loop-byte.invariant.size) in
    let data_len : c.loop-byte.size + 1 - header_of is_copy ≡ 1 + n = omega (arith, c.loop-byte.invariant.size) in
    let is1 : c.is_found.result ≡ ((stored Little bytes == bit_xor c.after_byte-register.result 4294967295) && has_no_fault (take (1 + n) (drop (header_of is_copy) bytes))) =
    c.is_found.ensures ∙ rw (c.stored-low_first.ensures, c.header_of-header.ensures, data_len) refl in
    let is2 : c.is_found-in-loop-byte.result ≡ ((stored Big bytes == bit_xor c.after_byte-register.result 4294967295) && has_no_fault (take (1 + n) (drop (header_of is_copy) bytes))) =
    c.is_found-in-loop-byte.ensures ∙ rw (c.stored-high_first.ensures, c.header_of-header.ensures, data_len) refl in
    record {
      register = register;
      size = size;
      little = elim c.if-is_found.branch [
        | then-is_found+in_ok-push w ↦ ap (λ v. v.items) w.little-is ∙ (w.in_ok-push.ensures.items ∙ (ap (λ k. c.loop-byte.little.items ++ k ∷ []) (size ∙ omega arith) ∙ next-size Little is_copy bytes n c.after_byte-register.result true c.loop-byte.little.items more (sym w.if-is_found.true ∙ is1) c.loop-byte.invariant.little))
        | else-is_found w ↦ ap (λ v. v.items) w.little-is ∙ next-size Little is_copy bytes n c.after_byte-register.result false c.loop-byte.little.items more (sym w.if-is_found.false ∙ is1) c.loop-byte.invariant.little
      ];
      big = elim c.if-is_found-2.branch [
        | then-is_found-2+in_ok-push-2 w ↦ ap (λ v. v.items) w.big-is ∙ (w.in_ok-push-2.ensures.items ∙ (ap (λ k. c.loop-byte.big.items ++ k ∷ []) (size ∙ omega arith) ∙ next-size Big is_copy bytes n c.after_byte-register.result true c.loop-byte.big.items more (sym w.if-is_found-2.true ∙ is2) c.loop-byte.invariant.big))
        | else-is_found-2 w ↦ ap (λ v. v.items) w.big-is ∙ next-size Big is_copy bytes n c.after_byte-register.result false c.loop-byte.big.items more (sym w.if-is_found-2.false ∙ is2) c.loop-byte.invariant.big
      ];
    }
