use Rattle.std.proofs.Common.{◌<◌, get_or, length, arith}
use Rattle.rehearse_boots.proofs.LeadingLemmas.{marks_marked, marks_set, marks_step}
use Rattle.rehearse_boots.proofs.leading.mark_places.Goals as goal
use Rattle.rehearse_boots.proofs.leading.mark_places.Goals.{then-not-marks-place+in_ok-push, else-not-marks-place}

pub loop-place-preserved : goal.loop-place-preserved
loop-place-preserved c =
    let places = c.args.places.now in
    let i = c.loop-place.place-index in
    let place = get_or places i 0 in
    let marks = c.loop-place.marks in
    let known = c.loop-place.found.items in
    let below = c.loop-place-test.true in
    let within : place < length marks = omega (arith, c.requires i 0 below, c.loop-place.auto.marks) in
    marks_step places i c.args.marks.now marks c.if-not-marks-place.marks c.args.found.now.items known c.if-not-marks-place.found.items below c.loop-place.invariant
    (elim c.if-not-marks-place.branch [
      | then-not-marks-place+in_ok-push w ↦
          rw (w.marks-is, w.found-is, w.in_ok-push.ensures.items) (marks_set place marks known within w.if-not-marks-place.true)
      | else-not-marks-place w ↦ rw (w.marks-is, w.found-is) (marks_marked place marks known w.if-not-marks-place.false)
    ])
