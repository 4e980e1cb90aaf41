use Rattle.std.proofs.Common.{List, Vec, ℕ, Global, ap, sym, ◌∙◌, ◌≡◌}
use Rattle.text.specs.TextsShown.{bytes_of_words}
use Rattle.rehearse_reads.specs.Keys as keys
use Rattle.rehearse_reports.specs.Known.{key_of}
use Rattle.rehearse_states.proofs.EqualLemmas.{texts_decided}
use Rattle.rehearse_endings.proofs.numbers.have_one_key.Goals as goal

pub returns-in-AnswerTo-AnswerTo : goal.returns-in-AnswerTo-AnswerTo
returns-in-AnswerTo-AnswerTo c = λ h.
    let one = c.as_slice-in-AnswerTo-AnswerTo in
    let two = c.as_slice-in-AnswerTo-AnswerTo-2 in
    let words = (texts_decided one.result.now two.result.now).0 (sym c.eq-in-AnswerTo-AnswerTo.ensures ∙ h) in
    ap key_of c.in-AnswerTo-AnswerTo.is-0
    ∙ ap (λ (ws : List (Vec ℕ Global)). keys.AnswerTo (bytes_of_words ws)) (sym one.ensures.value)
    ∙ ap keys.AnswerTo words
    ∙ ap (λ (ws : List (Vec ℕ Global)). keys.AnswerTo (bytes_of_words ws)) two.ensures.value
    ∙ sym (ap key_of c.in-AnswerTo-AnswerTo.is-1)

pub returns-in-Succeeded-Succeeded : goal.returns-in-Succeeded-Succeeded
returns-in-Succeeded-Succeeded c = λ h.
    let one = c.as_slice-in-Succeeded-Succeeded in
    let two = c.as_slice-in-Succeeded-Succeeded-2 in
    let words = (texts_decided one.result.now two.result.now).0 (sym c.eq-in-Succeeded-Succeeded.ensures ∙ h) in
    ap key_of c.in-Succeeded-Succeeded.is-0
    ∙ ap (λ (ws : List (Vec ℕ Global)). keys.Succeeded (bytes_of_words ws)) (sym one.ensures.value)
    ∙ ap keys.Succeeded words
    ∙ ap (λ (ws : List (Vec ℕ Global)). keys.Succeeded (bytes_of_words ws)) two.ensures.value
    ∙ sym (ap key_of c.in-Succeeded-Succeeded.is-1)
