use Rattle.std.proofs.Common.{◌≡◌, ◌+◌, ◌∙◌, ℕ, List, Vec, Global, ap, sym}
use Rattle.rehearse_endings.specs.Held.{size_of_known, size_of_words}
use Rattle.rehearse_endings.proofs.SizeLemmas.{left_on}
use Rattle.rehearse_endings.proofs.held.behind_known.Goals as goal

pub returns-in-AnswerTo : goal.returns-in-AnswerTo
returns-in-AnswerTo c =
    let call = c.deref-in-AnswerTo.result.now in
    let whole : size_of_known c.args.known.now ≡ 192 + size_of_words call = ap size_of_known c.in-AnswerTo.is ∙ ap (λ (ws : List (Vec ℕ Global)). 192 + size_of_words ws) (sym c.deref-in-AnswerTo.ensures.value) in
    left_on c.args.room 192 (size_of_words call) (size_of_known c.args.known.now) c.in_ok-left.left c.behind_words.result c.in_ok-left.ensures whole c.behind_words.ensures

pub returns-in-Succeeded : goal.returns-in-Succeeded
returns-in-Succeeded c =
    let start = c.deref-in-Succeeded.result.now in
    let whole : size_of_known c.args.known.now ≡ 192 + size_of_words start = ap size_of_known c.in-Succeeded.is ∙ ap (λ (ws : List (Vec ℕ Global)). 192 + size_of_words ws) (sym c.deref-in-Succeeded.ensures.value) in
    left_on c.args.room 192 (size_of_words start) (size_of_known c.args.known.now) c.in_ok-left.left c.behind_words-in-Succeeded.result c.in_ok-left.ensures whole c.behind_words-in-Succeeded.ensures
