use Rattle.rehearse_machine.proofs.PartLemmas.{first_command, later_command, no_command}
use Rattle.rehearse_machine.proofs.list_commands.command_of.Goals as goal

pub returns-then-command-eq0-clause-value : goal.returns-then-command-eq0-clause-value
returns-then-command-eq0-clause-value c = first_command c.args.list.now c.args.command c.if-command-eq0.true

pub returns-in-Some-clause-value : goal.returns-in-Some-clause-value
returns-in-Some-clause-value c = later_command c.args.list.now c.args.command c.deref.result.now c.in-Some.field-0.now c.deref.ensures.value c.if-command-eq0.false c.in-Some.ensures.lookup.3.0 c.in-Some.ensures.lookup.1

pub returns-in-None-clause-value : goal.returns-in-None-clause-value
returns-in-None-clause-value c = no_command c.args.list.now c.args.command c.deref.result.now c.deref.ensures.value c.if-command-eq0.false c.in-None.ensures.lookup.3
