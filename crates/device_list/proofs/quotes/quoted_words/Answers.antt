use Rattle.std.proofs.Common.{◌+◌, ◌-◌, ◌≤◌, ◌∙◌, ◌++◌, ◌∷◌, [], ap, sym, subst, map, filter, take, drop, append_assoc, List, ℕ, arith}
use Rattle.std.specs.Borrow.{Bor}
use Rattle.text.specs.Lines.{Text}
use Rattle.device_list.specs.Quotes.{pieces, has_byte}
use Rattle.device_list.proofs.QuoteLemmas.{behind, goes_on, ends}
use Rattle.device_list.proofs.quotes.quoted_words.Goals as goal
use Rattle.device_list.proofs.quotes.quoted_words.Goals.{then-is_of_word, else-is_of_word+in_ok-close}

pub loop-at-preserved : goal.loop-at-preserved
loop-at-preserved c =
    let line = c.trimmed-line.result.now in
    let at = c.loop-at.at in
    let start = c.loop-at.start in
    let words = map (λ (w : Bor Text). w.now) c.loop-at.words.items in
    elim c.if-is_of_word.branch [
      | then-is_of_word w ↦
          let goes = sym c.is_of_word.ensures ∙ w.if-is_of_word.true in
          let next = goes_on c.loop-at.quoted line start at c.loop-at.invariant.1 c.loop-at-test.true goes in (
            c.loop-at.invariant.0 ∙ ap (λ (ps : List Text). words ++ filter has_byte ps) next
                ∙ (λ i. map (λ (w : Bor Text). w.now) (sym (ap (λ v. v.items) w.words-is) i) ++ filter has_byte (behind (take (at + 1 - sym w.start-is i) (drop (sym w.start-is i) line)) (pieces (sym (w.quoted-is ∙ w.is_quoted_after-quoted.ensures) i) (drop (at + 1) line)))),
            subst (λ (n : ℕ). n ≤ at + 1) (sym w.start-is) (omega (arith, c.loop-at.invariant.1)),
          )
      | else-is_of_word+in_ok-close w ↦
          let goes = sym c.is_of_word.ensures ∙ w.if-is_of_word.false in
          let next = ends c.loop-at.quoted line start at c.loop-at.invariant.1 c.loop-at-test.true goes in
          let word = take (at - start) (drop start line) in
          let rest = filter has_byte (behind (take (at + 1 - (at + 1)) (drop (at + 1) line)) (pieces c.loop-at.quoted (drop (at + 1) line))) in (
            c.loop-at.invariant.0 ∙ ap (λ (ws : List Text). words ++ ws) next ∙ sym (append_assoc words (filter has_byte (word ∷ [])) rest)
                ∙ (λ i. sym (ap (λ v. map (λ (w : Bor Text). w.now) v.items) w.words-is ∙ w.in_ok-close.ensures) i ++ filter has_byte (behind (take (at + 1 - sym w.start-is i) (drop (sym w.start-is i) line)) (pieces (sym w.quoted-is i) (drop (at + 1) line)))),
            subst (λ (n : ℕ). n ≤ at + 1) (sym w.start-is) (omega arith),
          )
    ]
