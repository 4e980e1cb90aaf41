use Rattle.std.proofs.Common.{◌∙◌}
use Rattle.hushcheck.proofs.OrderLemmas.{added_item}
use Rattle.hushcheck.proofs.names.Names.add_all.Goals as goal

pub loop-name-preserved : goal.loop-name-preserved
loop-name-preserved c =
    added_item (λ name. name.items) c.args.self.now c.args.more.now c.loop-name.self c.add.new.self c.loop-name.name-index c.name-item.result _ c.loop-name-test.true c.name-item.is (c.in_ok-from_slice.ensures.items ∙ c.deref.ensures.value) c.loop-name.invariant c.in_ok-add.ensures
