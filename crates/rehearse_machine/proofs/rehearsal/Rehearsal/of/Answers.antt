use Rattle.std.proofs.Common.{rules, sym}
use Rattle.rehearse_machine.specs.Tasks.{source_shown}
use Rattle.rehearse_machine.proofs.TaskSet.{task_is_found, task_is_missing}
use Rattle.rehearse_machine.proofs.rehearsal.Rehearsal.of.Goals as goal

pub returns-then-is_none-2-clause-found : goal.returns-then-is_none-2-clause-found
returns-then-is_none-2-clause-found c = sym (task_is_missing c.args.env.now c.args.devices.now (source_shown c.args.source) c.args.bounds (search rules))

pub returns-clause-found : goal.returns-clause-found
returns-clause-found c = sym (task_is_found c.args.env.now c.args.devices.now (source_shown c.args.source) c.args.bounds (search rules))
