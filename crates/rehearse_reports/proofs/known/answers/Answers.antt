use Rattle.std.proofs.Common.{◌∙◌, sym, ap, ◌&&◌, Bool, List, Vec, ℕ}
use Rattle.std.specs.declared.alloc.Global.{Global}
use Rattle.text.specs.TextsShown.{bytes_of_words}
use Rattle.rehearse_terms.specs.State.{LoggedCommand, same_words}
use Rattle.rehearse_machine.proofs.ToldLemmas.{words_compared}
use Rattle.rehearse_reports.proofs.known.answers.Goals as goal

pub returns-then-has_answer : goal.returns-then-has_answer
returns-then-has_answer c =
    let call = bytes_of_words c.args.call.now in
    c.eq.ensures
    ∙ words_compared c.args.call.now c.as_slice.result.now
    ∙ ap (λ (ws : List (Vec ℕ Global)). same_words call (bytes_of_words ws)) c.as_slice.ensures.value
    ∙ ap (λ (e : LoggedCommand). same_words call e.words) c.entry.view_is
    ∙ ap (λ (b : Bool). b && same_words call c.args.entry.now.words) c.if-has_answer.ensures
