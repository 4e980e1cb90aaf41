use Rattle.rehearse_machine.proofs.PartLemmas.{command_found_behind, no_command_behind}
use Rattle.rehearse_machine.proofs.list_commands.command_behind.Goals as goal

pub returns-in-Some : goal.returns-in-Some
returns-in-Some c = command_found_behind c.args.list.now c.args.command c.deref.result.now c.deref.ensures.value c.in-Some.field-0.now c.in-Some.ensures.lookup.3.0 c.in-Some.ensures.lookup.1

pub returns-in-None : goal.returns-in-None
returns-in-None c = no_command_behind c.args.list.now c.args.command c.deref.result.now c.deref.ensures.value c.in-None.ensures.lookup.3
