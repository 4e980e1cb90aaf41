use Rattle.rehearse_machine.specs.Tasks.{task_in}
use Rattle.rehearse_machine.specs.Machine.{outcome_when}
use Rattle.rehearse_machine.proofs.StoppingLemmas.{never_found, takes_outcome}
use Rattle.rehearse_machine.proofs.ToldLemmas.{outcome_succeeds}
use Rattle.rehearse_reports.specs.ReportsShown.{accesses_shown}
use Rattle.rehearse_reports.proofs.OutcomeLemmas.{all_given}
use Rattle.rehearse_reports.proofs.resuming.give_outcome.Goals as goal

pub unreachable-requires : goal.unreachable-requires
unreachable-requires g c =
    never_found (task_in c.args.rehearsal.now).limits (g.S.Store.record_of c.args.store.now) (g.S.Store.record_of c.find_again.new.store) c.in_ok-found.found c.requires c.in_ok-found.ensures c.in_default.not-Asks

pub returns-clause-taken : goal.returns-clause-taken
returns-clause-taken g c =
    let outcome = outcome_when c.args.success in
    takes_outcome (task_in c.args.rehearsal.now).limits (g.S.Store.record_of c.args.store.now) (g.S.Store.record_of c.find_again.new.store) c.in_ok-found.found c.requires c.in_ok-found.ensures
    c.in-Asks.ask c.in-Asks.is outcome (g.S.Store.record_of c.answer.new.store) c.answer.result (c.answer.ensures outcome (outcome_succeeds c.args.success))

pub returns-clause-follows : goal.returns-clause-follows
returns-clause-follows g c =
    let outcome = outcome_when c.args.success in
    all_given (task_in c.args.rehearsal.now).limits (g.S.Store.record_of c.args.store.now) (g.S.Store.record_of c.find_again.new.store) (g.S.Store.record_of c.answer.new.store) c.in_ok-found.found c.in-Asks.ask outcome (accesses_shown c.args.reported.now) (accesses_shown c.report_outcome.new.reported) c.requires c.in_ok-found.ensures c.in-Asks.is c.in_ok-report_outcome.ensures
    c.answer.result (c.answer.ensures outcome (outcome_succeeds c.args.success))
