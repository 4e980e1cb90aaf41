-- A variable whose name is all that is in its braces.
use Rattle.std.proofs.Common.{◌≡◌, ◌∙◌, refl, sym, ap, ℕ, true, false, List, [], ◌∷◌, ◌++◌, take, drop, append-nil, arith}
use Rattle.std.specs.List.{prefix_len}
use Rattle.std.proofs.lemmas.Bool.{true≢false}
use Rattle.std.proofs.lemmas.List.{take-append-drop}
use Rattle.hushlang_uboot.specs.ReadBytes.{has_bytes}
use Rattle.hushlang_old.specs.Defaults.{is_no_colon, variable_of, behind_variable, has_more}

some_bytes : (byte : ℕ) (bytes : List ℕ) → has_bytes (byte ∷ bytes) ≡ true
some_bytes byte bytes = grind arith

no_bytes : (bytes : List ℕ) → has_bytes bytes ≡ false → bytes ≡ []
no_bytes [] e = refl
no_bytes (byte ∷ bytes) e = absurd (true≢false (sym (some_bytes byte bytes) ∙ e))

pub whole_name : (inside : List ℕ) → has_more inside ≡ false → variable_of inside ≡ inside
unfolding variable_of behind_variable
whole_name inside e =
    let n = prefix_len is_no_colon inside in
    sym (append-nil (take n inside)) ∙ ap (λ rest. take n inside ++ rest) (sym (no_bytes (drop n inside) e)) ∙ take-append-drop n inside
