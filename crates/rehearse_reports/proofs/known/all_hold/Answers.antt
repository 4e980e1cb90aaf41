use Rattle.rehearse_reports.proofs.KnownLemmas.{hold_next, hold_all, holds_one}
use Rattle.rehearse_reports.proofs.known.all_hold.Goals as goal

pub loop-one-init : goal.loop-one-init
loop-one-init g c = tt

pub loop-one-preserved : goal.loop-one-preserved
loop-one-preserved g c =
    hold_next (g.S.Store.record_of c.args.store.now).present c.args.known.now c.loop-one.one-index c.one-item.result c.loop-one-test.true c.one-item.is c.loop-one.invariant (c.holds.ensures.same c.if-not-holds.false)

pub returns-then-not-holds-clause-told : goal.returns-then-not-holds-clause-told
returns-then-not-holds-clause-told g c = λ h.
    c.if-not-holds.ensures.told (holds_one (g.S.Store.record_of c.args.store.now).present c.args.known.now c.loop-one.one-index c.one-item.result c.loop-one-test.true c.one-item.is h)

pub returns-clause-same : goal.returns-clause-same
returns-clause-same g c = λ h. hold_all (g.S.Store.record_of c.args.store.now).present c.args.known.now c.loop-one.one-index c.loop-one-test.false c.loop-one.invariant
