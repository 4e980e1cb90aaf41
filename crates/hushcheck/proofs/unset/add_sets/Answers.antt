use Rattle.std.proofs.Common.{ap, ◌∙◌}
use Rattle.hushcheck.specs.CallSetsShown.{names_shown}
use Rattle.hushcheck.specs.Order.{with_names}
use Rattle.hushcheck.proofs.OrderLemmas.{names_all, names_item}
use Rattle.hushcheck.proofs.SetsLemmas.{sets_shown}
use Rattle.hushcheck.proofs.unset.add_sets.Goals as goal

pub loop-text-preserved : goal.loop-text-preserved
loop-text-preserved c =
    names_item (λ u. names_shown u.sets.items) c.args.names.now c.args.used.now c.loop-text.names c.add_all.new.self c.loop-text.text-index c.text-item.result c.loop-text-test.true c.text-item.is c.loop-text.invariant
    (c.in_ok-add_all.ensures ∙ ap (λ sets. with_names c.loop-text.names (names_shown sets)) c.deref.ensures.value)

pub returns : goal.returns
returns c =
    names_all (λ u. names_shown u.sets.items) c.args.names.now c.args.used.now c.loop-text.names c.loop-text.text-index c.loop-text-test.false c.loop-text.invariant
    ∙ ap (with_names c.args.names.now) (sets_shown c.args.used.now)
