use Rattle.std.proofs.Common.{◌≡◌, ℕ, ◌==◌, List, length, get_or, Option, None, Some, arith}
use Rattle.std.proofs.lemmas.Bool.{false_from_ne_true}
use Rattle.std.proofs.lemmas.List.Sums.{position_or_len_is}
use Rattle.std.specs.List.{position}
use Rattle.memchr.specs.Find.{IsFirstByte, is_byte}
use Rattle.text.proofs.search.find.Goals as goal

-- The first place of a byte is where its test first passes.
first_is_position : (b : ℕ) (bytes : List ℕ) (found : Option ℕ) → IsFirstByte (is_byte b) bytes found → found ≡ position (λ x. x == b) bytes
first_is_position b bytes None nowhere =
    let end = position_or_len_is (λ x. x == b) bytes (length bytes) 0 (omega arith) (λ k lt. false_from_ne_true (get_or bytes k 0 == b) (nowhere k (omega arith) lt)) (λ lt. absurd (omega arith)) in
    grind (arith, end)
first_is_position b bytes (Some at) first =
    let end = position_or_len_is (λ x. x == b) bytes at 0 (omega (arith, first.0.high)) (λ k lt. false_from_ne_true (get_or bytes k 0 == b) (first.0.before k (omega arith) lt)) (λ lt. first.1) in
    grind (arith, end, first.0.high)

pub returns : goal.returns
returns c = first_is_position c.args.wanted c.args.bytes.now c.memchr.result c.memchr.ensures
