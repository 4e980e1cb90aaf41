use Rattle.std.proofs.Common.{◌≡◌, ◌∙◌, ap, sym, subst, Some, List}
use Rattle.std.specs.Prelude.{slice_get}
use Rattle.std.specs.Option.{option_map}
use Rattle.envimage.specs.Data.{Pair}
use Rattle.envtools.specs.Environment.{assigned, HasDistinctNames, IsEnvironment}
use Rattle.envtools.proofs.DraftLemmas.{IsVariable-at}
use Rattle.envtools.proofs.EnvOf.{assigned-next}
use Rattle.envtools.proofs.env.Env.copy.Goals as goal

pub assign-requires : goal.assign-requires
assign-requires c =
    let p : Pair = (c.unwrap.result.0.now, c.unwrap.result.1.now) in
    let there : slice_get c.args.self.now c.loop-at.at ≡ Some p =
    sym c.pair.ensures ∙ ap (option_map (λ p. (p.0.now, p.1.now))) c.unwrap.ensures in
    let Valid : List Pair → Type 0 = λ ps. IsEnvironment ps in
    IsVariable-at c.args.self.now c.loop-at.at p (subst Valid c.self.view_is c.self.invariant).each there

pub loop-at-preserved : goal.loop-at-preserved
loop-at-preserved c =
    let p : Pair = (c.unwrap.result.0.now, c.unwrap.result.1.now) in
    let there : slice_get c.args.self.now c.loop-at.at ≡ Some p =
    sym c.pair.ensures ∙ ap (option_map (λ p. (p.0.now, p.1.now))) c.unwrap.ensures in
    let Distinct : List Pair → Type 0 = λ ps. HasDistinctNames ps in
    c.in_ok-assign.ensures.ok
    ∙ (ap (λ env. assigned env p.0 p.1) c.loop-at.invariant
    ∙ assigned-next c.args.self.now c.loop-at.at p (subst Distinct c.self.view_is c.self.invariant.distinct) there)
