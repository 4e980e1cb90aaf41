use Rattle.std.proofs.Common.{sym, ap, ◌∙◌, Some}
use Rattle.text.specs.TextsShown.{bytes_of_words}
use Rattle.rehearse_terms.specs.State.{LoggedCommand}
use Rattle.rehearse_machine.proofs.ToldLemmas.{answer_found, answer_later, no_answer}
use Rattle.rehearse_reports.proofs.known.answer_to.Goals as goal

pub loop-entry-preserved : goal.loop-entry-preserved
loop-entry-preserved c =
    answer_later c.args.log.now (bytes_of_words c.args.call.now) c.loop-entry.entry-index c.entry-item.result c.loop-entry-test.true c.entry-item.is c.loop-entry.invariant (sym c.if-answers.ensures)

pub returns-then-answers : goal.returns-then-answers
returns-then-answers c =
    ap (λ (e : LoggedCommand). Some e.success) c.entry.view_is
    ∙ answer_found c.args.log.now (bytes_of_words c.args.call.now) c.loop-entry.entry-index c.entry-item.result c.loop-entry-test.true c.entry-item.is c.loop-entry.invariant (sym c.if-answers.ensures)

pub returns : goal.returns
returns c = no_answer c.args.log.now (bytes_of_words c.args.call.now) c.loop-entry.entry-index c.loop-entry-test.false c.loop-entry.invariant
