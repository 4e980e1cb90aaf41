use Rattle.std.proofs.Common.{◌≡◌, ◌∙◌, ap, sym, Some}
use Rattle.std.specs.Prelude.{slice_get}
use Rattle.std.specs.Option.{option_map}
use Rattle.envimage.specs.Data.{Pair}
use Rattle.envtools.specs.Environment.{assigned}
use Rattle.envtools.proofs.DraftLemmas.{IsVariable-at}
use Rattle.envtools.proofs.EnvOf.{assigned-next}
use Rattle.envtools.proofs.env.Env.of_list.Goals as goal

pub assign-requires : goal.assign-requires
assign-requires c =
    let p : Pair = (c.unwrap.result.0.now, c.unwrap.result.1.now) in
    let there : slice_get c.args.list.now c.loop-at.at ≡ Some p =
    sym c.pair.ensures ∙ ap (option_map (λ p. (p.0.now, p.1.now))) c.unwrap.ensures in
    IsVariable-at c.args.list.now c.loop-at.at p c.len-at-end.ensures.valid.each there

pub loop-at-preserved : goal.loop-at-preserved
loop-at-preserved c =
    let p : Pair = (c.unwrap.result.0.now, c.unwrap.result.1.now) in
    let there : slice_get c.args.list.now c.loop-at.at ≡ Some p =
    sym c.pair.ensures ∙ ap (option_map (λ p. (p.0.now, p.1.now))) c.unwrap.ensures in
    c.in_ok-assign.ensures.ok
    ∙ (ap (λ env. assigned env p.0 p.1) c.loop-at.invariant
    ∙ assigned-next c.args.list.now c.loop-at.at p c.len-at-end.ensures.valid.distinct there)
