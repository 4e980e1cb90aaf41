use Rattle.std.proofs.Common.{◌≡◌, ◌∙◌, ap, map}
use Rattle.rehearse_machine.specs.Tasks.{task_from}
use Rattle.rehearse_runs.specs.RunsShown.{RunsShown}
use Rattle.rehearse_causes.specs.Causes.{cause_on, least}
use Rattle.rehearse_causes.specs.CauseLines.{reported}
use Rattle.rehearse_causes.specs.TellingCauses.{source_of}
use Rattle.rehearse_causes.proofs.UnheardCauses.{same_causes}
use Rattle.rehearse_causes.proofs.telling.causes_in.Goals as goal

pub returns-in-Ok-clause-ok : goal.returns-in-Ok-clause-ok
returns-in-Ok-clause-ok g c =
    let task = task_from c.args.env.now c.args.devices.now (source_of c.args.ask.now) c.args.ask.now.bounds in
    let quiet = ap (λ (r : RunsShown). least (map (cause_on r.task) r.to_come)) c.in_ok-runs.ensures.ok in
    record {
      task = task;
      task_is = c.in_ok-runs.ensures.found;
      so = c.in-Ok.ensures ∙ ap (reported c.args.ask.now.check) (c.in_ok-causes.ensures.ok ∙ quiet ∙ same_causes task);
    }
