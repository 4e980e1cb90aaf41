use Rattle.std.proofs.Common.{ap, sym}
use Rattle.commands.specs.BuiltInCommands.{changed_by, carried}
use Rattle.commands.specs.ComputedShown.{computed_shown}
use Rattle.commands.specs.declared.computed.Computed.{Computed}
use Rattle.rehearse_machine.proofs.ComputedLemmas.{changed_as}
use Rattle.rehearse_machine.proofs.computed.carry_out.Goals as goal

pub returns-in-Sets : goal.returns-in-Sets
returns-in-Sets g c = changed_as c.setenv.result _ _ _ _ (ap (λ (x : Computed). changed_by (carried (computed_shown x))) (sym c.in-Sets.is)) c.setenv.ensures

pub returns-in-Deletes : goal.returns-in-Deletes
returns-in-Deletes g c = changed_as c.delete_all.result _ _ _ _ (ap (λ (x : Computed). changed_by (carried (computed_shown x))) (sym c.in-Deletes.is)) c.delete_all.ensures

pub returns-in-SetsNumber : goal.returns-in-SetsNumber
returns-in-SetsNumber g c = changed_as c.set_number.result _ _ _ _ (ap (λ (x : Computed). changed_by (carried (computed_shown x))) (sym c.in-SetsNumber.is)) c.set_number.ensures
