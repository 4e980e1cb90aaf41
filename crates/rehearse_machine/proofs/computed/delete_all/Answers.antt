use Rattle.std.proofs.Common.{ℕ, List, None, ap, ◌∙◌}
use Rattle.std.specs.Option.{is_some}
use Rattle.std.specs.FinMap.{entries}
use Rattle.bootstore_state.specs.Record.{changed, with_environment}
use Rattle.rehearse_terms.specs.State.{get}
use Rattle.rehearse_machine.proofs.ComputedLemmas.{none_deleted, next_deleted, all_deleted}
use Rattle.rehearse_machine.proofs.computed.delete_all.Goals as goal

pub loop-name-init : goal.loop-name-init
loop-name-init g c = none_deleted c.args.names.now (g.S.Store.record_of c.args.store.now)

pub loop-name-preserved : goal.loop-name-preserved
loop-name-preserved g c =
    let now = g.S.Store.record_of c.loop-name.store in
    next_deleted c.args.names.now c.loop-name.name-index c.loop-name.status c.status_after-status.result (g.S.Store.record_of c.args.store.now) now (g.S.Store.record_of c.delete.new.store)
    c.name-item.result c.in_ok-was_set.was_set c.loop-name-test.true c.name-item.is
    (c.in_ok-was_set.ensures.was_set ∙ ap (λ (n : List ℕ). is_some (get (entries now.present.environment) n)) c.deref.ensures.value)
    (c.in_ok-was_set.ensures.deleted ∙ ap (λ (n : List ℕ). changed (with_environment n None) now) c.deref.ensures.value)
    c.status_after-status.ensures c.loop-name.invariant

pub returns : goal.returns
returns g c =
    all_deleted c.args.names.now c.loop-name.name-index c.loop-name.status (g.S.Store.record_of c.args.store.now) (g.S.Store.record_of c.loop-name.store) (g.S.Store.record_of c.set_status.new.self) c.set_status.result
    c.loop-name-test.false c.loop-name.invariant c.set_status.ensures.ok
