use Rattle.std.proofs.Common.{◌≡◌, ◌∙◌, ap, rules, sym, subst, Option, Some}
use Rattle.rehearse_rules.specs.Runs.{Task}
use Rattle.rehearse_machine.specs.Tasks.{task_found, task_in}
use Rattle.rehearse_machine.proofs.TaskSet.{task_is_found}
use Rattle.rehearse_endings.specs.TellingEndings.{AreLines, names_of, source_of}
use Rattle.rehearse_endings.proofs.telling.lines_in.Goals as goal

pub returns-in-Ok-clause-ok : goal.returns-in-Ok-clause-ok
returns-in-Ok-clause-ok g c =
    let source = source_of c.args.ask.now in
    let found : Some (task_in c.in-Some.rehearsal) ≡ task_found c.args.env.now c.args.devices.now source c.args.ask.now.bounds =
    ap (λ (t : Task). Some t) c.in-Some.ensures.shown ∙ sym (task_is_found c.args.env.now c.args.devices.now source c.args.ask.now.bounds (search rules)) in
    subst (λ (o : Option Task). AreLines (names_of c.args.ask.now) c.args.ask.now.flow c.args.ask.now.states c.args.ask.now.memory o c.in-Ok.text.items) found c.in-Ok.ensures.ok
