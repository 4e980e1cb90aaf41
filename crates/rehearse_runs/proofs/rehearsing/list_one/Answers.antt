use Rattle.std.proofs.Common.{◌≡◌, map, rules, subst, Some}
use Rattle.rehearse_rules.specs.Runs.{Task}
use Rattle.rehearse_machine.specs.Tasks.{source_shown, task_found, task_from}
use Rattle.rehearse_machine.proofs.TaskSet.{task_is_found}
use Rattle.rehearse_runs.specs.RunAlone.{BreaksAlone, WritesAlone}
use Rattle.rehearse_runs.proofs.HeadlineLemmas.{breaks_alone, writes_alone}
use Rattle.rehearse_runs.proofs.rehearsing.list_one.Goals as goal

pub returns-in-Ok-clause-ok : goal.returns-in-Ok-clause-ok
returns-in-Ok-clause-ok g c =
    let env = c.args.env.now in
    let devices = c.args.devices.now in
    let source = source_shown c.args.source in
    let names = map (λ n. n.now) c.args.names.now in
    let old = g.O.Out.sink c.args.out.now in
    let new = g.O.Out.sink c.write_run.new.out in
    let set : task_found env devices source c.args.bounds ≡ Some (task_from env devices source c.args.bounds) = task_is_found env devices source c.args.bounds (search rules) in
    writes_alone env devices source c.args.bounds c.args.word.now names old new set (subst (λ (t : Task). WritesAlone t c.args.word.now names old new) c.in-Some.ensures.shown c.in-Ok.ensures.ok)

pub returns-in-Err-clause-err : goal.returns-in-Err-clause-err
returns-in-Err-clause-err g c =
    let env = c.args.env.now in
    let devices = c.args.devices.now in
    let source = source_shown c.args.source in
    let names = map (λ n. n.now) c.args.names.now in
    let old = g.O.Out.sink c.args.out.now in
    let new = g.O.Out.sink c.write_run.new.out in
    let set : task_found env devices source c.args.bounds ≡ Some (task_from env devices source c.args.bounds) = task_is_found env devices source c.args.bounds (search rules) in
    breaks_alone env devices source c.args.bounds c.args.word.now names old new c.in-Err.error set (subst (λ (t : Task). BreaksAlone t c.args.word.now names old new c.in-Err.error) c.in-Some.ensures.shown c.in-Err.ensures.err)
