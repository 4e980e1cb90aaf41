use Rattle.std.proofs.Common.{sym, ap, ◌∙◌, Some, ◌∷◌, List}
use Rattle.text.specs.TextsShown.{bytes_of_words}
use Rattle.rehearse_terms.specs.State.{Text, LoggedCommand}
use Rattle.rehearse_machine.proofs.ToldLemmas.{answer_found, answer_later, no_answer}
use Rattle.rehearse_machine.proofs.told.answer_in.Goals as goal

pub loop-entry-preserved : goal.loop-entry-preserved
loop-entry-preserved c =
    let call : List Text = c.args.name.now ∷ bytes_of_words c.args.words.now in
    answer_later c.args.log.now call c.loop-entry.entry-index c.entry-item.result c.loop-entry-test.true c.entry-item.is c.loop-entry.invariant (sym c.if-answers.ensures)

pub returns-then-answers : goal.returns-then-answers
returns-then-answers c =
    let call : List Text = c.args.name.now ∷ bytes_of_words c.args.words.now in
    ap (λ (e : LoggedCommand). Some e.success) c.entry.view_is
    ∙ answer_found c.args.log.now call c.loop-entry.entry-index c.entry-item.result c.loop-entry-test.true c.entry-item.is c.loop-entry.invariant (sym c.if-answers.ensures)

pub returns : goal.returns
returns c =
    let call : List Text = c.args.name.now ∷ bytes_of_words c.args.words.now in
    no_answer c.args.log.now call c.loop-entry.entry-index c.loop-entry-test.false c.loop-entry.invariant
