use Rattle.rehearse_machine.specs.Tasks.{task_in}
use Rattle.rehearse_machine.specs.Machine.{outcome_when}
use Rattle.rehearse_machine.proofs.StoppingLemmas.{asked_takes}
use Rattle.rehearse_machine.proofs.ToldLemmas.{outcome_succeeds}
use Rattle.rehearse_machine.proofs.rehearsal.give_outcome.Goals as goal

pub returns : goal.returns
returns g c =
    let outcome = outcome_when c.args.success in
    asked_takes (task_in c.args.rehearsal.now).limits (g.S.Store.record_of c.args.store.now) (g.S.Store.record_of c.answer.new.store) c.args.ask outcome c.answer.result c.requires.asks c.requires.this (c.answer.ensures outcome (outcome_succeeds c.args.success))
