use Rattle.hushcheck.proofs.AskedLemmas.{all_asked, names_all, texts}
use Rattle.hushcheck.proofs.asked.asked_names.Goals as goal

pub returns : goal.returns
returns c =
    let all = names_all (texts c.args.given.now) c.args.env.now c.loop-pair.names.items c.deref-pair-items.result.now c.in_ok-pairs.pairs.items c.loop-pair.pair-index c.loop-pair-test.false c.deref-pair-items.ensures.value c.in_ok-pairs.ensures.pairs c.loop-pair.invariant in
    all_asked c.args.all c.args.env.now (texts c.args.given.now) _ c.if-not-all.false all
