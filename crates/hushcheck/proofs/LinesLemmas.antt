-- The lines of a place of a text, one after another.
use Rattle.std.proofs.Common.{◌≡◌, ℕ, List, ◌++◌, ap, sym, ◌∙◌, append_assoc}
use Rattle.std.proofs.lemmas.List.{map-append}
use Rattle.std.specs.Prelude.{codes}
use Rattle.hushcheck.specs.Places.{marked}
use Rattle.hushcheck.specs.Shown.{line_byte, mark_line, shown_line}

-- what is shown of a line, and a mark under it
pub marked_is : (old a b c d new front rest : List ℕ) → a ≡ old ++ shown_line front → b ≡ a ++ shown_line rest → c ≡ b ++ codes "\n" → d ≡ c ++ mark_line front → new ≡ d ++ codes "\n"
    → new ≡ old ++ marked front rest
marked_is old a b c d new front rest first second third fourth last =
    let line : b ≡ old ++ shown_line (front ++ rest) =
    second ∙ ap (λ t. t ++ shown_line rest) first ∙ append_assoc old (shown_line front) (shown_line rest) ∙ ap (λ t. old ++ t) (sym (map-append line_byte front rest)) in
    last ∙ ap (λ t. t ++ codes "\n") (fourth ∙ ap (λ t. t ++ mark_line front) (third ∙ ap (λ t. t ++ codes "\n") line))
    ∙ three old (shown_line (front ++ rest)) (codes "\n") (mark_line front) (codes "\n")
  where
    three : (o p q r s : List ℕ) → o ++ p ++ q ++ r ++ s ≡ o ++ (p ++ q ++ r ++ s)
    three o p q r s = ap (λ t. t ++ r ++ s) (append_assoc o p q) ∙ ap (λ t. t ++ s) (append_assoc o (p ++ q) r) ∙ append_assoc o (p ++ q ++ r) s

-- a place, what is reported of it, and what is shown of its line
pub found_is : (old a b new form what shown : List ℕ) → a ≡ old ++ form → b ≡ a ++ what → new ≡ b ++ (codes "\n" ++ shown) → new ≡ old ++ (form ++ what ++ codes "\n" ++ shown)
found_is old a b new form what shown first second last =
    last ∙ ap (λ t. t ++ (codes "\n" ++ shown)) (second ∙ ap (λ t. t ++ what) first)
    ∙ append_assoc (old ++ form) what (codes "\n" ++ shown) ∙ append_assoc old form (what ++ (codes "\n" ++ shown))
    ∙ ap (λ t. old ++ t) (sym (append_assoc form what (codes "\n" ++ shown)) ∙ sym (append_assoc (form ++ what) (codes "\n") shown))
