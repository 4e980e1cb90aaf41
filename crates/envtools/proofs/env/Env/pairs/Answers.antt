use Rattle.std.proofs.Common.{◌≡◌, ◌∙◌, ◌++◌, ◌∷◌, [], ap, sym, map, Some}
use Rattle.std.specs.Prelude.{slice_get}
use Rattle.std.specs.Option.{option_map}
use Rattle.envimage.specs.Data.{Pair}
use Rattle.std.proofs.lemmas.List.{map-append}
use Rattle.envimage.specs.Entries.{pair_at}
use Rattle.envtools.proofs.EnvOf.{take-next}
use Rattle.envtools.proofs.env.Env.pairs.Goals as goal

pub loop-place-preserved : goal.loop-place-preserved
loop-place-preserved c =
    let p : Pair = (c.unwrap.result.0.now, c.unwrap.result.1.now) in
    let there : slice_get c.args.self.now c.loop-place.place ≡ Some p =
    sym c.pair.ensures ∙ ap (option_map (λ p. (p.0.now, p.1.now))) c.unwrap.ensures in
    ap (map pair_at) c.in_ok-push.ensures.items
    ∙ (map-append pair_at c.loop-place.pairs.items (c.unwrap.result ∷ [])
    ∙ (ap (λ t. t ++ p ∷ []) c.loop-place.invariant
    ∙ sym (take-next c.args.self.now c.loop-place.place p there)))
