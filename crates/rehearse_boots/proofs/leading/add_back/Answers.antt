use Rattle.std.proofs.Common.{◌<◌, ◌∙◌, [], ◌∷◌, ◌++◌, ap, get_or, length, List, ℕ, set, subst, sym, arith}
use Rattle.std.specs.declared.alloc.Global.{Global}
use Rattle.std.specs.declared.vec.Vec.{Vec}
use Rattle.rehearse_boots.specs.Leading.{lists_of}
use Rattle.rehearse_boots.specs.LeadingRounds.{AddsBack}
use Rattle.rehearse_boots.proofs.LeadingLemmas.{back_set, back_step, list_at, lists_long, lists_set}
use Rattle.rehearse_boots.proofs.leading.add_back.Goals as goal

pub loop-place-preserved : goal.loop-place-preserved
loop-place-preserved c =
    let from = c.args.from in
    let places = c.args.places.now in
    let i = c.loop-place.place-index in
    let place = get_or places i 0 in
    let old = c.loop-place.back in
    let list = c.index-back-place.result in
    let more = c.push.new.self in
    let below = c.loop-place-test.true in
    let within : place < length old = omega (arith, c.requires i 0 below, c.loop-place.auto.back) in
    let new = lists_set old place more (list.items ++ from ∷ []) (c.in_ok-push.ensures.items ∙ ap (λ (v : Vec ℕ Global). v.items ++ from ∷ []) (sym c.index-back-place.is)) in
    back_step from places i (lists_of c.args.back.now) (lists_of old) (lists_of (set old place more)) below c.loop-place.invariant
    (subst (λ (after : List (List ℕ)). AddsBack from (place ∷ []) (lists_of old) after) (sym new)
    (back_set from place (lists_of old) list.items (omega (arith, lists_long old)) (sym (list_at old place list within c.index-back-place.is))))
