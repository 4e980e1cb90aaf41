use Rattle.std.proofs.Common.{subst}
use Rattle.rehearse_rules.specs.Runs.{Task}
use Rattle.rehearse_runs.specs.Walking.{WalksTo}
use Rattle.rehearse_runs.specs.RunsShown.{outcomes}
use Rattle.rehearse_machine.specs.Tasks.{task_shown}
use Rattle.rehearse_runs.specs.declared.walking.Walked.TheVariants.{Ends, Short}
use Rattle.rehearse_runs.proofs.BehindLemmas.{kind_run, kind_short, walked_at}
use Rattle.rehearse_runs.proofs.trying.try_word.Goals as goal

pub returns-in-Ends-clause-ok : goal.returns-in-Ends-clause-ok
returns-in-Ends-clause-ok g c =
    let task = task_shown c.args.env.now c.args.devices.now c.args.name.now c.args.bounds in
    let text = c.args.word.now in
    let all = c.walk_to.new.digits.items in
    let old = g.S.Store.record_of c.new-store.result in
    let new = g.S.Store.record_of c.walk_to.new.store in
    let walked = subst (λ (t : Task). WalksTo t text all (outcomes all) c.in-Ok.walked old new) c.in-Some.ensures.shown c.in-Ok.ensures.ok in
    kind_run task text all c.in-Ends.field-0 old new (walked_at task text all (outcomes all) c.in-Ok.walked (Ends c.in-Ends.field-0) old new c.in-Ends.is walked)

pub returns-in-Short-clause-ok : goal.returns-in-Short-clause-ok
returns-in-Short-clause-ok g c =
    let task = task_shown c.args.env.now c.args.devices.now c.args.name.now c.args.bounds in
    let text = c.args.word.now in
    let all = c.walk_to.new.digits.items in
    let old = g.S.Store.record_of c.new-store.result in
    let new = g.S.Store.record_of c.walk_to.new.store in
    let walked = subst (λ (t : Task). WalksTo t text all (outcomes all) c.in-Ok.walked old new) c.in-Some.ensures.shown c.in-Ok.ensures.ok in
    kind_short task text (walked_at task text all (outcomes all) c.in-Ok.walked Short old new c.in-Short.is walked)
