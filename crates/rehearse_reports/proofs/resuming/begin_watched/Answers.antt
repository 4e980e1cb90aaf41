use Rattle.std.proofs.Common.{sym}
use Rattle.rehearse_rules.specs.Runs.{run_on}
use Rattle.rehearse_machine.specs.Came.{settled}
use Rattle.rehearse_machine.specs.Tasks.{task_in}
use Rattle.rehearse_machine.specs.Turning.{to_come}
use Rattle.rehearse_machine.proofs.StoppingLemmas.{all_stop_as}
use Rattle.rehearse_reports.proofs.resuming.begin_watched.Goals as goal

pub go_on-requires-clause-sound : goal.go_on-requires-clause-sound
go_on-requires-clause-sound g c = let starts = rw c.in-None.is at c.in_ok-start.ensures.starts in starts.0

pub returns-in-None-clause-stops : goal.returns-in-None-clause-stops
returns-in-None-clause-stops g c =
    let task = task_in c.args.rehearsal.now in
    let started = (g.S.Store.record_of c.start.new.store).present in
    let starts = rw c.in-None.is at c.in_ok-start.ensures.starts in
    all_stop_as (λ stop. stop) c.go_on.result task.limits (to_come task.limits started) (λ w. settled (run_on task w)) (g.S.Store.record_of c.go_on.new.store) (λ w. sym (starts.1 w)) c.go_on.ensures.stops
