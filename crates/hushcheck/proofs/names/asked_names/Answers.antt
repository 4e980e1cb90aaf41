use Rattle.std.proofs.Common.{refl}
use Rattle.hushcheck.proofs.OrderLemmas.{once_item}
use Rattle.hushcheck.proofs.names.asked_names.Goals as goal

pub loop-name-preserved : goal.loop-name-preserved
loop-name-preserved c =
    once_item (λ name. name.now) c.args.asked.now c.loop-name.name-index _ c.loop-name.names c.add_copy.new.self _ c.loop-name-test.true refl c.loop-name.invariant c.in_default.ensures
