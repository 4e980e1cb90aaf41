use Rattle.std.proofs.Common.{map, refl, ◌∙◌}
use Rattle.rehearse_machine.specs.Tasks.{task_in}
use Rattle.rehearse_runs.specs.RunsShown.{outcomes}
use Rattle.rehearse_runs.specs.declared.walking.Walked.TheVariants.{Ends, Short, Long}
use Rattle.rehearse_runs.proofs.OneRunLemmas.{alone_broken, alone_written, long_no_run}
use Rattle.rehearse_runs.proofs.BehindLemmas.{short_no_run, walked_at}
use Rattle.rehearse_runs.proofs.HeadlineLemmas.{spells_no_run}
use Rattle.rehearse_runs.proofs.one_run.write_run.Goals as goal

pub returns-in-Ok-write_one-clause-ok : goal.returns-in-Ok-write_one-clause-ok
returns-in-Ok-write_one-clause-ok g c =
    let task = task_in c.args.rehearsal.now in
    let text = c.digits_of-text.result.now in
    let all = c.walk_to.new.digits.items in
    let old = g.S.Store.record_of c.new-store.result in
    let new = g.S.Store.record_of c.walk_to.new.store in
    alone_written g.S.Store task c.args.word.now text all (map (λ n. n.now) c.args.names.now) c.in-Ends.halt old new c.new-view.result c.digits_of-text.ensures
    (walked_at task text all (outcomes all) c.in-Ok.walked (Ends c.in-Ends.halt) old new c.in-Ends.is c.in-Ok.ensures.ok)
    c.new-view.ensures.word c.new-view.ensures.moment (c.new-view.ensures.ending ∙ c.ending.ensures) c.in-Ok-write_one.ensures

pub returns-in-Ends-clause-err : goal.returns-in-Ends-clause-err
returns-in-Ends-clause-err g c =
    let task = task_in c.args.rehearsal.now in
    let text = c.digits_of-text.result.now in
    let all = c.walk_to.new.digits.items in
    let old = g.S.Store.record_of c.new-store.result in
    let new = g.S.Store.record_of c.walk_to.new.store in
    alone_broken g.S.Store task c.args.word.now text all (map (λ n. n.now) c.args.names.now) c.in-Ends.halt old new c.new-view.result c.digits_of-text.ensures
    (walked_at task text all (outcomes all) c.in-Ok.walked (Ends c.in-Ends.halt) old new c.in-Ends.is c.in-Ok.ensures.ok)
    c.new-view.ensures.word c.new-view.ensures.moment (c.new-view.ensures.ending ∙ c.ending.ensures) c.in-Err.ensures

pub returns-in-Short : goal.returns-in-Short
returns-in-Short g c =
    let task = task_in c.args.rehearsal.now in
    let text = c.digits_of-text.result.now in
    let all = c.walk_to.new.digits.items in
    let there = walked_at task text all (outcomes all) c.in-Ok.walked Short (g.S.Store.record_of c.new-store.result) (g.S.Store.record_of c.walk_to.new.store) c.in-Short.is c.in-Ok.ensures.ok in
    record { ok = tt; err = (spells_no_run task c.args.word.now text c.digits_of-text.ensures (short_no_run task text there), refl) }

pub returns-clause-err : goal.returns-clause-err
returns-clause-err g c =
    let task = task_in c.args.rehearsal.now in
    let text = c.digits_of-text.result.now in
    let all = c.walk_to.new.digits.items in
    let there = walked_at task text all (outcomes all) c.in-Ok.walked Long (g.S.Store.record_of c.new-store.result) (g.S.Store.record_of c.walk_to.new.store) c.in-Long.is c.in-Ok.ensures.ok in
    (spells_no_run task c.args.word.now text c.digits_of-text.ensures (long_no_run task text there), refl)
