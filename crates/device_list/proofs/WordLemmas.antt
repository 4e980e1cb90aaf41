-- Words that are lent, and what is said of their bytes.
use Rattle.std.proofs.Common.{◌≡◌, ℕ, ◌+◌, ◌-◌, ◌≤◌, ◌<◌, Bool, true, false, cond, nat_le, List, map, length, take, drop, Result, Err, Bor, refl, sym, ap, ◌∙◌, arith}
use Rattle.std.proofs.lemmas.List.{take-map, drop-map, take_all, length-map, length-drop}
use Rattle.std.proofs.lemmas.Bool.Decides.{nat_tests}
use Rattle.text.specs.Lines.{Text}
use Rattle.device_list.specs.CallLines.{Call, Files, colon_place, call_parts, call_line, ends_in_rest, fixed_words}
use Rattle.device_list.specs.NamedFiles.{clause_words}
use Rattle.device_list.specs.declared.devices_error.DevicesError.{DevicesError}
use Rattle.device_list.specs.declared.devices_error.DevicesError.TheVariants.{BadLine}

abbrev pub bytes_of : List (Bor Text) → List Text
bytes_of = map (λ w. w.now)

-- the words on both sides of the `:`
pub call_line_at : (files : Files) (number : ℕ) (ws : List (Bor Text)) (at : ℕ) → at ≡ colon_place (bytes_of ws) → nat_le (length (bytes_of ws)) at ≡ false
    → call_parts files number (bytes_of (take at ws)) (bytes_of (drop (at + 1) ws)) ≡ call_line files number (bytes_of ws)
call_line_at files number ws at place whole =
    (λ i. call_parts files number (sym (take-map (λ (w : Bor Text). w.now) at ws) i) (sym (drop-map (λ (w : Bor Text). w.now) (at + 1) ws) i))
    ∙ sym (ap (λ (b : Bool). cond b (Err (BadLine number)) (call_parts files number (take at (bytes_of ws)) (drop (at + 1) (bytes_of ws)))) whole)
    ∙ ap (λ (n : ℕ). let r : Result Call DevicesError = cond (nat_le (length (bytes_of ws)) n) (Err (BadLine number)) (call_parts files number (take n (bytes_of ws)) (drop (n + 1) (bytes_of ws))) in r) place

pub length_now : (ws : List (Bor Text)) → length (bytes_of ws) ≡ length ws
length_now ws = length-map ws (λ (w : Bor Text). w.now)

-- the words without the last one
pub fixed_is : (ws : List (Bor Text)) → ends_in_rest (bytes_of ws) ≡ true → bytes_of (take (length ws - 1) ws) ≡ fixed_words (bytes_of ws)
fixed_is ws e =
    sym (take-map (λ (w : Bor Text). w.now) (length ws - 1) ws)
    ∙ ap (λ (n : ℕ). take (n - 1) (bytes_of ws)) (sym (length_now ws))
    ∙ sym (ap (λ (b : Bool). cond b (take (length (bytes_of ws) - 1) (bytes_of ws)) (bytes_of ws)) e)

pub not_below : (ws : List (Bor Text)) (at : ℕ) → at < length ws → nat_le (length (bytes_of ws)) at ≡ false
not_below ws at l = ap (λ (n : ℕ). nat_le n at) (length_now ws) ∙ by (nat_le (length ws) at) refl
  where
    by : (b : Bool) → nat_le (length ws) at ≡ b → b ≡ false
    by false e = refl
    by true e = absurd (let m : length ws ≤ at = grind (arith, nat_tests) in omega (arith, m, l))

pub rest_is : (ws : List (Bor Text)) (n : ℕ) → take (length ws - n) (drop n ws) ≡ drop n ws
rest_is ws n = take_all (length ws - n) (drop n ws) (let e = length-drop n ws in omega (arith, e))

-- the words after the `:`
pub clauses_at : (ws : List (Bor Text)) (words : List Text) (at : ℕ) → bytes_of ws ≡ words → at ≡ colon_place (bytes_of ws) → bytes_of (take (length ws - (at + 1)) (drop (at + 1) ws)) ≡ clause_words words
clauses_at ws words at are place =
    ap bytes_of (rest_is ws (at + 1))
    ∙ sym (drop-map (λ (w : Bor Text). w.now) (at + 1) ws)
    ∙ ap (λ (n : ℕ). drop (n + 1) (bytes_of ws)) place
    ∙ ap clause_words are
