use Rattle.rehearse_machine.specs.MovesShown.{request_shown}
use Rattle.rehearse_machine.proofs.OutcomeLemmas.{hands_over}
use Rattle.rehearse_machine.proofs.outcomes.answer.Goals as goal

pub returns : goal.returns
returns g c outcome is =
    hands_over outcome (request_shown c.args.ask) (g.S.Store.record_of c.args.store.now) (g.S.Store.record_of c.hand_over.new.store) (g.S.Store.record_of c.take.new.store) c.take.result c.in_ok-hand_over.ensures (c.take.ensures outcome is)
