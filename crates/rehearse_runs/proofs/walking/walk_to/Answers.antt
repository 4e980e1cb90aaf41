use Rattle.std.proofs.Common.{rules}
use Rattle.rehearse_machine.specs.Tasks.{task_in}
use Rattle.rehearse_runs.proofs.SearchLemmas.{none_counted, none_kept}
use Rattle.rehearse_runs.proofs.walking.walk_to.Goals as goal

pub walk-requires : goal.walk-requires
walk-requires g c =
    let task = task_in c.args.rehearsal.now in
    let count = none_counted task c.clear.new.self.items c.clear.ensures in
    let kept = none_kept task.limits c.clear-2.new.self.items (g.S.Store.record_of c.begin.new.store).marked c.clear-2.ensures.items c.in_ok-stopped.ensures.marks in
    (search rules, (count, (search rules, (search rules, (search rules, (kept, search rules))))))
