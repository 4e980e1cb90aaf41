use Rattle.std.proofs.Common.{◌∙◌, ap, sym, arith}
use Rattle.commands.specs.Verdict.{combined, verdict}
use Rattle.commands.specs.TextsShown.{texts, term_shown}
use Rattle.commands.proofs.VerdictLemmas.{chain-begun, chain-next, term-shorter, length-texts}
use Rattle.commands.proofs.truth.verdict.Goals as goal

pub loop-operator-init : goal.loop-operator-init
loop-operator-init c =
    chain-begun (texts c.args.words.now) (c.in-Some.truth, texts c.in-Some.rest.now) (sym c.term.ensures ∙ ap term_shown c.in-Some.is)

pub loop-operator-smaller : goal.loop-operator-smaller
loop-operator-smaller c =
    let shorter = term-shorter (texts c.in-Some-split_first.more.now) (c.in-Some-term.next, texts c.in-Some-term.behind.now) (sym c.term-in-Some-split_first.ensures ∙ ap term_shown c.in-Some-term.is) in
    omega (arith, shorter, length-texts c.in-Some-split_first.more.now, length-texts c.in-Some-term.behind.now, c.in-Some-split_first.ensures.cases.1)

pub loop-operator-preserved : goal.loop-operator-preserved
loop-operator-preserved c =
    let joined = sym c.combined.ensures ∙ c.in-Some-combined.is in
    chain-next (verdict (texts c.args.words.now)) c.loop-operator.truth c.in-Some-combined.both c.loop-operator.invariant.left (texts c.loop-operator.rest.now) (texts c.in-Some-split_first.more.now)
    c.in-Some-split_first.operator.now.items (c.in-Some-term.next, texts c.in-Some-term.behind.now) c.loop-operator.invariant.is_whole c.loop-operator.invariant.enough
    (ap texts c.in-Some-split_first.ensures.cases.0) (sym c.term-in-Some-split_first.ensures ∙ ap term_shown c.in-Some-term.is)
    (ap (λ o. combined o c.loop-operator.truth c.in-Some-term.next) (sym c.deref.ensures.value) ∙ joined)
