use Rattle.std.proofs.Common.{◌≡◌, ◌∙◌, ap, sym, true, false, Some, arith}
use Rattle.std.specs.Prelude.{slice_get}
use Rattle.std.specs.Option.{option_map}
use Rattle.envimage.specs.Data.{Pair}
use Rattle.envtools.specs.Environment.{assigned}
use Rattle.envtools.specs.Importing.{is_set}
use Rattle.envtools.proofs.DraftLemmas.{IsVariable-at}
use Rattle.envtools.proofs.ImportLemmas.{set_next, unset_next}
use Rattle.envtools.proofs.env.Env.only_set.Goals as goal
use Rattle.envtools.proofs.env.Env.only_set.Goals.{then-not-is_empty+in_ok-assign, else-not-is_empty}

pub assign-requires : goal.assign-requires
assign-requires c =
    let p : Pair = (c.unwrap.result.0.now, c.unwrap.result.1.now) in
    let there : slice_get c.args.self.now c.loop-place.place ≡ Some p =
    sym c.pair.ensures ∙ ap (option_map (λ p. (p.0.now, p.1.now))) c.unwrap.ensures in
    IsVariable-at c.args.self.now c.loop-place.place p c.allocator.ensures.each there

pub loop-place-preserved : goal.loop-place-preserved
loop-place-preserved c =
    let p : Pair = (c.unwrap.result.0.now, c.unwrap.result.1.now) in
    let there : slice_get c.args.self.now c.loop-place.place ≡ Some p =
    sym c.pair.ensures ∙ ap (option_map (λ p. (p.0.now, p.1.now))) c.unwrap.ensures in
    elim c.if-not-is_empty.branch [
      | then-not-is_empty+in_ok-assign w ↦
          let kept : is_set p ≡ true = grind (arith, w.if-not-is_empty.true, c.is_empty.ensures) in
          w.env-is ∙ (w.in_ok-assign.ensures.ok ∙ (ap (λ env. assigned env p.0 p.1) c.loop-place.invariant
          ∙ set_next c.args.self.now c.loop-place.place p c.allocator.ensures.distinct there kept))
      | else-not-is_empty w ↦
          let empty : is_set p ≡ false = grind (arith, w.if-not-is_empty.false, c.is_empty.ensures) in
          w.env-is ∙ (c.loop-place.invariant ∙ unset_next c.args.self.now c.loop-place.place p there empty)
    ]
