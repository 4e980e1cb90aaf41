use Rattle.std.proofs.Common.{◌∙◌}
use Rattle.rehearse_machine.specs.Tasks.{task_in}
use Rattle.rehearse_runs.proofs.RunsLemmas.{stood}
use Rattle.rehearse_runs.proofs.runs.Runs.get.Goals as goal

pub returns-in-At : goal.returns-in-At
returns-in-At g c =
    let r = c.self.inside in
    let task = task_in r.rehearsal in
    rw (← c.self.view_is) (stood g.S.Store task r.word.items r.has_given (g.S.Store.record_of r.store) r.phase _ c.new.result c.in-At.is c.self.invariant.0 c.self.invariant.2 (c.new.ensures.word ∙ c.as_slice.ensures) (c.new.ensures.ending ∙ c.ending.ensures) c.new.ensures.moment c.new.ensures.marks c.self.invariant.1 c.self.invariant.4)
