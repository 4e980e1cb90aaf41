use Rattle.rehearse_boots.proofs.LeadingLemmas.{those_step_more, those_step_same}
use Rattle.rehearse_boots.proofs.leading.places_of.Goals as goal
use Rattle.rehearse_boots.proofs.leading.places_of.Goals.{then-marked+in_ok-push, else-marked}

pub loop-place-preserved : goal.loop-place-preserved
loop-place-preserved c =
    let marks = c.args.marks.now in
    let place = c.loop-place.place in
    let places = c.loop-place.places.items in
    elim c.if-marked.branch [
      | then-marked+in_ok-push w ↦
          rw (w.places-is, w.in_ok-push.ensures.items) (those_step_more marks place places c.loop-place-test.true c.loop-place.invariant w.if-marked.true)
      | else-marked w ↦ rw w.places-is (those_step_same marks place places c.loop-place-test.true c.loop-place.invariant w.if-marked.false)
    ]
