use Rattle.rehearse_runs.specs.RunsShown.{outcomes}
use Rattle.rehearse_machine.specs.Tasks.{task_in}
use Rattle.rehearse_runs.proofs.SearchLemmas.{first_found, none_counted, none_kept}
use Rattle.rehearse_runs.proofs.searching.first_run.Goals as goal

pub search-requires-clause-count : goal.search-requires-clause-count
search-requires-clause-count g c e = none_counted (task_in c.args.rehearsal.now) c.clear.new.self.items c.clear.ensures

pub returns-clause-ok : goal.returns-clause-ok
returns-clause-ok g c = first_found c.search.result (task_in c.args.rehearsal.now) (outcomes c.search.new.digits.items) (g.S.Store.record_of c.args.store.now) (g.S.Store.record_of c.begin.new.store) (g.S.Store.record_of c.search.new.store) c.in_ok-stopped.ensures.begun (rw c.clear.ensures at c.search.ensures.ok)

pub search-requires-clause-kept : goal.search-requires-clause-kept
search-requires-clause-kept g c = none_kept (task_in c.args.rehearsal.now).limits c.clear-2.new.self.items (g.S.Store.record_of c.begin.new.store).marked c.clear-2.ensures.items c.in_ok-stopped.ensures.marks
