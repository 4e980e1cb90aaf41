use Rattle.std.proofs.Common.{sym, ◌∙◌}
use Rattle.rehearse_machine.proofs.AssignLemmas.{variable_stays, variable_is_set}
use Rattle.rehearse_machine.proofs.assigns.assign_one.Goals as goal

pub returns-then-is_refused : goal.returns-then-is_refused
returns-then-is_refused g c = variable_stays c.args.shell c.args.name.now c.args.value.now (g.S.Store.record_of c.args.store.now) (sym c.is_refused.ensures ∙ c.if-is_refused.true)

pub returns : goal.returns
returns g c = variable_is_set c.args.shell c.args.name.now c.args.value.now (g.S.Store.record_of c.args.store.now) (g.S.Store.record_of c.set_local.new.self) (sym c.is_refused.ensures ∙ c.if-is_refused.false) c.in_ok-set_local.ensures.ok
