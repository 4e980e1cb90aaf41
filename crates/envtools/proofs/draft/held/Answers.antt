use Rattle.std.proofs.Common.{◌≡◌, ◌++◌, ◌∷◌, [], map, get_or, ap, sym, refl, ◌∙◌, Some}
use Rattle.std.proofs.lemmas.List.{map-append}
use Rattle.envimage.specs.Entries.{pair_at}
use Rattle.envtools.specs.Drafting.{place_of}
use Rattle.envtools.proofs.DraftLemmas.{place-found, place-other, held-next, held-stale}
use Rattle.envtools.proofs.ListLemmas.{get-mapped}
use Rattle.envtools.proofs.draft.held.Goals.{then-eq+in_ok-push, else-eq}
use Rattle.envtools.proofs.draft.held.Goals as goal

pub loop-at-preserved : goal.loop-at-preserved
loop-at-preserved c =
    let f = place_of c.args.places.now.entries in
    let written = map pair_at c.args.written.now in
    let p = get_or c.args.written.now c.loop-at.at _ in
    let there = get-mapped c.args.written.now c.loop-at.at p _ c.loop-at-test.true refl in
    elim c.if-eq.branch [
      | then-eq+in_ok-push w ↦
          let holds : f (pair_at p).0 ≡ Some c.loop-at.at = sym c.place_of.ensures ∙ place-found c.place_of.result c.loop-at.at (sym c.eq.ensures ∙ w.if-eq.true) in
          ap (λ pairs. map pair_at pairs.items) w.pairs-is
          ∙ (ap (map pair_at) w.in_ok-push.ensures.items
          ∙ (map-append pair_at c.loop-at.pairs.items (p ∷ [])
          ∙ (ap (λ t. t ++ pair_at p ∷ []) c.loop-at.invariant
          ∙ held-next f written c.loop-at.at (pair_at p) there holds)))
      | else-eq w ↦
          let stale = place-other c.place_of.result c.loop-at.at (sym c.eq.ensures ∙ w.if-eq.false) in
          ap (λ pairs. map pair_at pairs.items) w.pairs-is ∙ (c.loop-at.invariant ∙ held-stale f written c.loop-at.at (pair_at p) there (λ o. stale (c.place_of.ensures ∙ o)))
    ]
