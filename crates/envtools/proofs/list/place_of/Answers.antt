use Rattle.std.proofs.Common.{◌∙◌, map, sym, get_or, refl}
use Rattle.envimage.specs.Entries.{pair_at}
use Rattle.envtools.proofs.ListLemmas.{still-absent, get-mapped}
use Rattle.envtools.proofs.list.place_of.Goals as goal

pub returns-then-eq : goal.returns-then-eq
returns-then-eq c =
    let p = get_or c.args.pairs.now c.loop-at.at _ in
    (pair_at p, get-mapped c.args.pairs.now c.loop-at.at p _ c.loop-at-test.true refl, sym c.eq.ensures ∙ c.if-eq.true)

pub loop-at-preserved : goal.loop-at-preserved
loop-at-preserved c =
    let p = get_or c.args.pairs.now c.loop-at.at _ in
    still-absent c.args.name.now (map pair_at c.args.pairs.now) c.loop-at.at (pair_at p) (get-mapped c.args.pairs.now c.loop-at.at p _ c.loop-at-test.true refl) c.loop-at.invariant (sym c.eq.ensures ∙ c.if-eq.false)
