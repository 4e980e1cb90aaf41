use Rattle.std.proofs.Common.{ap, refl, ◌∙◌}
use Rattle.hushcheck.specs.Order.{once}
use Rattle.hushcheck.proofs.AskedLemmas.{pairs_all}
use Rattle.hushcheck.proofs.OrderLemmas.{once_item}
use Rattle.hushcheck.proofs.names.names_of.Goals as goal

pub loop-pair-preserved : goal.loop-pair-preserved
loop-pair-preserved c =
    once_item (λ pair. pair.0.now) c.deref-pair-items.result.now c.loop-pair.pair-index _ c.loop-pair.names c.add_copy.new.self _ c.loop-pair-test.true refl c.loop-pair.invariant c.in_default.ensures

pub returns : goal.returns
returns c = c.loop-pair.invariant ∙ ap once (pairs_all c.args.env.now c.deref-pair-items.result.now c.in_ok-pairs.pairs.items c.loop-pair.pair-index c.loop-pair-test.false c.deref-pair-items.ensures.value c.in_ok-pairs.ensures.pairs)
