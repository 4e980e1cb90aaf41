use Rattle.std.proofs.Common.{◌<◌, ◌∙◌, [], get_or, length, subst, sym, ℕ, List}
use Rattle.rehearse_boots.specs.Leading.{lists_of}
use Rattle.rehearse_boots.specs.LeadingRounds.{Marks}
use Rattle.rehearse_boots.proofs.LeadingLemmas.{list_at, lists_inside, marks_before_step}
use Rattle.rehearse_boots.proofs.leading.mark_before.Goals as goal

pub mark_places-requires : goal.mark_places-requires
mark_places-requires c =
    let back = c.args.back.now in
    let place = get_or c.args.places.now c.loop-place.place-index 0 in
    let within : place < length back = c.requires.places c.loop-place.place-index 0 c.loop-place-test.true in
    let inside = lists_inside back place (length c.args.marks.now) c.index-back-place.result within c.index-back-place.is c.requires.back in
    rw (c.deref.ensures.value, c.loop-place.auto.marks) inside

pub loop-place-preserved : goal.loop-place-preserved
loop-place-preserved c =
    let back = c.args.back.now in
    let i = c.loop-place.place-index in
    let place = get_or c.args.places.now i 0 in
    let within : place < length back = c.requires.places i 0 c.loop-place-test.true in
    let list = c.deref.ensures.value ∙ sym (list_at back place c.index-back-place.result within c.index-back-place.is) in
    marks_before_step (lists_of back) c.args.places.now i c.args.marks.now c.loop-place.marks c.mark_places.new.marks [] c.loop-place.found.items c.mark_places.new.found.items c.loop-place-test.true c.loop-place.invariant
    (subst (λ (l : List ℕ). Marks l c.loop-place.marks c.mark_places.new.marks c.loop-place.found.items c.mark_places.new.found.items) list c.in_ok-mark_places.ensures)
