use Rattle.rehearse_endings.specs.Indexed.{NoneOnTop}
use Rattle.rehearse_endings.proofs.IndexLemmas.{all_in_all, all_more, nothing}
use Rattle.rehearse_endings.proofs.table.Table.find_on_top.Goals as goal

pub loop-many-preserved : goal.loop-many-preserved
loop-many-preserved g c =
    all_more (NoneOnTop c.args.bounds.steps c.args.bounds.devices c.args.self.now (g.S.Store.record_of c.args.store.now).present) c.deref-many-items.result.now c.loop-many.many-index 0 c.loop-many-test.true c.loop-many.invariant
    (nothing _ _ c.in_ok-found.field-0 c.in_default.is c.in_ok-found.ensures)

pub returns : goal.returns
returns g c = all_in_all (NoneOnTop c.args.bounds.steps c.args.bounds.devices c.args.self.now (g.S.Store.record_of c.args.store.now).present) c.deref-many-items.result.now c.args.self.now.depths.items c.loop-many.many-index c.loop-many-test.false c.deref-many-items.ensures.value c.loop-many.invariant
