use Rattle.std.proofs.Common.{rules, ◌≡◌, ◌∷◌}
use Rattle.rehearse_states.proofs.SideBySide.{told_step, told_end}
use Rattle.rehearse_states.proofs.places.same_frames.Goals as goal

pub returns-then-not-same_frame-clause-told : goal.returns-then-not-same_frame-clause-told
returns-then-not-same_frame-clause-told c = λ h.
    let split : c.loop-frame.others.now ≡ c.in-Some.other.now ∷ c.in-Some.more.now = search rules in
    c.if-not-same_frame.ensures.told
    (told_step c.args.b.now c.args.a.now c.loop-frame.others.now c.in-Some.more.now c.loop-frame.frame-index c.frame-item.result c.in-Some.other.now c.loop-frame-test.true c.frame-item.is c.loop-frame.invariant split h)

pub returns-clause-told : goal.returns-clause-told
returns-clause-told c = λ h. told_end c.args.b.now c.args.a.now c.loop-frame.others.now c.loop-frame.frame-index c.is_empty.result c.loop-frame-test.false c.loop-frame.invariant c.is_empty.ensures h
