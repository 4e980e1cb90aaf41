use Rattle.std.proofs.Common.{◌∙◌}
use Rattle.rehearse_runs.specs.RunsShown.{outcomes}
use Rattle.rehearse_machine.specs.Tasks.{task_in}
use Rattle.rehearse_runs.proofs.RunsLemmas.{more_behind, none_behind, more_at_first}
use Rattle.rehearse_runs.proofs.runs.Runs.has_more.Goals as goal

pub returns-in-At : goal.returns-in-At
returns-in-At g c =
    let r = c.self.inside in
    rw (← c.self.view_is) (c.has_mark.ensures ∙ more_behind (task_in r.rehearsal) r.has_given (outcomes r.word.items) (g.S.Store.record_of r.store) r.phase c.in-At.field-0 c.in-At.is c.self.invariant.1 c.self.invariant.2)

pub returns-in-Over : goal.returns-in-Over
returns-in-Over g c =
    let r = c.self.inside in
    rw (← c.self.view_is) (none_behind (task_in r.rehearsal) r.has_given (outcomes r.word.items) (g.S.Store.record_of r.store) r.phase c.in-Over.is c.self.invariant.2)

pub returns-in-Fresh : goal.returns-in-Fresh
returns-in-Fresh g c =
    let r = c.self.inside in
    rw (← c.self.view_is) (more_at_first (task_in r.rehearsal) r.has_given (outcomes r.word.items) (g.S.Store.record_of r.store) r.phase c.in-Fresh.is c.self.invariant.2)
