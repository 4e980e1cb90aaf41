use Rattle.std.proofs.Common.{List, length, rules, ap, sym, subst, true, Some, ◌∙◌}
use Rattle.rehearse_terms.specs.State.{LoggedCommand}
use Rattle.rehearse_rules.specs.Expected.{asked_in, unexpected_of}
use Rattle.rehearse_rules.specs.Runs.{Task}
use Rattle.rehearse_runs.specs.Behind.{GoesOnBehind, IsNotListed}
use Rattle.rehearse_runs.specs.Walking.{KeepsFor, WalksTo}
use Rattle.rehearse_runs.specs.Phases.{shown_at}
use Rattle.rehearse_runs.specs.declared.runs.Phase.TheVariants.{At}
use Rattle.rehearse_runs.specs.RunsShown.{outcomes}
use Rattle.rehearse_machine.specs.Tasks.{source_shown, task_from, task_in}
use Rattle.rehearse_runs.specs.Searching.{requests}
use Rattle.rehearse_runs.specs.declared.walking.Walked.{Walked}
use Rattle.rehearse_runs.specs.declared.walking.Walked.TheVariants.{Ends}
use Rattle.rehearse_runs.proofs.BehindLemmas.{allowed_at, too_many, not_run, run_not_listed, stands_from, goes_on_from, walked_at}
use Rattle.rehearse_runs.proofs.runs.Runs.behind.Goals as goal

pub invariant_of-result : goal.invariant_of-result
invariant_of-result g c =
    let task = task_in c.in-Some.rehearsal in
    let text = c.args.word.now in
    let all = c.walk_to.new.digits.items in
    let old = g.S.Store.record_of c.new-store.result in
    let new = g.S.Store.record_of c.walk_to.new.store in
    let walked = walked_at task text all (outcomes all) c.in-Ok.walked (Ends c.in-Ends.halt) old new c.in-Ends.is c.in-Ok.ensures.ok in
    let allowed = allowed_at task text all c.in-Ends.halt old new c.args.devices.now c.failures.result c.unexpected-count.result (ap (λ (t : Task). t.limits.devices) (sym c.in-Some.ensures.shown))
    (c.failures.ensures ∙ ap (λ (t : Task). t.failures) (sym c.in-Some.ensures.shown)) (c.unexpected-count.ensures ∙ ap (λ (log : List LoggedCommand). length (unexpected_of c.args.devices.now (asked_in log))) c.log.ensures) walked in
    let stands = stands_from task text all c.copy_of.result.items c.in-Ends.halt old new c.copy_of.ensures c.new-store.ensures c.in-Some.ensures.bounds (c.if-not-is_at_most.ensures ∙ allowed) walked in
    let kept = subst (λ (w : Walked). KeepsFor w task.limits (requests c.walk_to.new.asks.items) new) c.in-Ends.is c.in-Ok.ensures.kept in
    (stands.0, stands.1, stands.2, stands.3, stands.4, kept)

pub returns-clause-ok : goal.returns-clause-ok
returns-clause-ok g c =
    let task = task_in c.in-Some.rehearsal in
    let text = c.args.word.now in
    let all = c.walk_to.new.digits.items in
    let old = g.S.Store.record_of c.new-store.result in
    let new = g.S.Store.record_of c.walk_to.new.store in
    let walked = walked_at task text all (outcomes all) c.in-Ok.walked (Ends c.in-Ends.halt) old new c.in-Ends.is c.in-Ok.ensures.ok in
    let allowed = allowed_at task text all c.in-Ends.halt old new c.args.devices.now c.failures.result c.unexpected-count.result (ap (λ (t : Task). t.limits.devices) (sym c.in-Some.ensures.shown))
    (c.failures.ensures ∙ ap (λ (t : Task). t.failures) (sym c.in-Some.ensures.shown)) (c.unexpected-count.ensures ∙ ap (λ (log : List LoggedCommand). length (unexpected_of c.args.devices.now (asked_in log))) c.log.ensures) walked in
    let shown = shown_at task (Some (outcomes c.copy_of.result.items)) true (outcomes all) new.begun (At c.in-Ends.halt) in
    subst (λ (t : Task). GoesOnBehind t text shown) c.in-Some.ensures.shown
    (goes_on_from task text all c.copy_of.result.items c.in-Ends.halt old new c.copy_of.ensures c.new-store.ensures (c.if-not-is_at_most.ensures ∙ allowed) walked)

pub returns-then-not-is_at_most-clause-err : goal.returns-then-not-is_at_most-clause-err
returns-then-not-is_at_most-clause-err g c =
    let task = task_in c.in-Some.rehearsal in
    let text = c.args.word.now in
    let all = c.walk_to.new.digits.items in
    let old = g.S.Store.record_of c.new-store.result in
    let new = g.S.Store.record_of c.walk_to.new.store in
    let walked = walked_at task text all (outcomes all) c.in-Ok.walked (Ends c.in-Ends.halt) old new c.in-Ends.is c.in-Ok.ensures.ok in
    let allowed = allowed_at task text all c.in-Ends.halt old new c.args.devices.now c.failures.result c.unexpected-count.result (ap (λ (t : Task). t.limits.devices) (sym c.in-Some.ensures.shown))
    (c.failures.ensures ∙ ap (λ (t : Task). t.failures) (sym c.in-Some.ensures.shown)) (c.unexpected-count.ensures ∙ ap (λ (log : List LoggedCommand). length (unexpected_of c.args.devices.now (asked_in log))) c.log.ensures) walked in
    (search rules, subst (λ (t : Task). IsNotListed t text) c.in-Some.ensures.shown (too_many task text all c.in-Ends.halt old new (c.if-not-is_at_most.ensures ∙ allowed) walked))

pub returns-in_default-walked-clause-err : goal.returns-in_default-walked-clause-err
returns-in_default-walked-clause-err g c =
    let task = task_from c.args.env.now c.args.devices.now (source_shown c.args.source) c.args.bounds in
    let text = c.args.word.now in
    let all = c.walk_to.new.digits.items in
    let old = g.S.Store.record_of c.new-store.result in
    let new = g.S.Store.record_of c.walk_to.new.store in
    let walked = subst (λ (t : Task). WalksTo t text all (outcomes all) c.in-Ok.walked old new) c.in-Some.ensures.shown c.in-Ok.ensures.ok in
    (search rules, run_not_listed task text (not_run task text all (outcomes all) c.in-Ok.walked old new c.in_default-walked.not-Ends walked))
