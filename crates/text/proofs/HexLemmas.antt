-- The hexadecimal digits of a byte.
use Rattle.std.proofs.Common.{◌≡◌, ℕ, zero, suc, ◌<◌, ◌/◌, ◌%◌, [], ◌∷◌, get_or, refl, ap, ◌∙◌, arith}
use Rattle.hex.specs.Hex.{lower_digits, encode_lower, encode_with}
use Rattle.text.specs.Escapes.{hex_digit}

digit_is : (d : ℕ) → d < 16 → get_or lower_digits d 0 ≡ hex_digit d
digit_is zero h = refl
digit_is (suc zero) h = refl
digit_is (suc (suc zero)) h = refl
digit_is (suc (suc (suc zero))) h = refl
digit_is (suc (suc (suc (suc zero)))) h = refl
digit_is (suc (suc (suc (suc (suc zero))))) h = refl
digit_is (suc (suc (suc (suc (suc (suc zero)))))) h = refl
digit_is (suc (suc (suc (suc (suc (suc (suc zero))))))) h = refl
digit_is (suc (suc (suc (suc (suc (suc (suc (suc zero)))))))) h = refl
digit_is (suc (suc (suc (suc (suc (suc (suc (suc (suc zero))))))))) h = refl
digit_is (suc (suc (suc (suc (suc (suc (suc (suc (suc (suc zero)))))))))) h = refl
digit_is (suc (suc (suc (suc (suc (suc (suc (suc (suc (suc (suc zero))))))))))) h = refl
digit_is (suc (suc (suc (suc (suc (suc (suc (suc (suc (suc (suc (suc zero)))))))))))) h = refl
digit_is (suc (suc (suc (suc (suc (suc (suc (suc (suc (suc (suc (suc (suc zero))))))))))))) h = refl
digit_is (suc (suc (suc (suc (suc (suc (suc (suc (suc (suc (suc (suc (suc (suc zero)))))))))))))) h = refl
digit_is (suc (suc (suc (suc (suc (suc (suc (suc (suc (suc (suc (suc (suc (suc (suc zero))))))))))))))) h = refl
digit_is (suc (suc (suc (suc (suc (suc (suc (suc (suc (suc (suc (suc (suc (suc (suc (suc d)))))))))))))))) h = absurd (omega arith)

pub digits_are : (byte : ℕ) → byte < 256 → encode_lower (byte ∷ []) ≡ hex_digit (byte / 16) ∷ hex_digit (byte % 16) ∷ []
unfolding encode_with
digits_are byte h =
    let high : byte / 16 < 16 = omega arith in
    let low : byte % 16 < 16 = omega arith in
    ap (λ (d : ℕ). d ∷ get_or lower_digits (byte % 16) 0 ∷ []) (digit_is (byte / 16) high) ∙ ap (λ (d : ℕ). hex_digit (byte / 16) ∷ d ∷ []) (digit_is (byte % 16) low)
