use Rattle.rehearse_rules.specs.Runs.{unheard}
use Rattle.rehearse_machine.specs.Tasks.{task_in}
use Rattle.rehearse_runs.proofs.AdvanceLemmas.{bounds_in, stands_fresh}
use Rattle.rehearse_runs.proofs.runs.Runs.unheard.Goals as goal

pub invariant_of-result : goal.invariant_of-result
invariant_of-result g c =
    let task = task_in c.unheard-quiet.result in
    let bounds = bounds_in task (unheard (task_in c.in-Some.rehearsal)) c.unheard-quiet.ensures c.in-Some.ensures.bounds in
    let fresh = stands_fresh task c.new-2.result.items (g.S.Store.record_of c.new.result) c.new-2.ensures c.new.ensures bounds in
    (fresh.0, fresh.1, fresh.2, fresh.3, fresh.4, tt)
