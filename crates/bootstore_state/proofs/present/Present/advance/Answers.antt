use Rattle.std.proofs.Common.{◌-◌, ◌∙◌, ap, reverse, set}
use Rattle.bootstore_state.specs.Moment.{RunningFrame}
use Rattle.bootstore_state.specs.Present.{moment_of}
use Rattle.bootstore_state.proofs.PresentLemmas.{moved_last}
use Rattle.bootstore_state.proofs.present.Present.advance.Goals as goal

pub returns-then-count-gt0-clause-moved : goal.returns-then-count-gt0-clause-moved
returns-then-count-gt0-clause-moved c =
    let old = c.args.self.now.frames in
    let written = λ (f : RunningFrame). reverse (set old.items (c.len-count.result - 1) f) in
    let moved_frame = λ (f : RunningFrame). record f { place = c.args.place } in
    ap (λ fs. record (moment_of c.args.self.now) { frames = fs })
    (ap written (c.move_to.ensures ∙ ap moved_frame c.index_mut.ensures.value)
    ∙ moved_last c.args.place old.items c.len-count.result c.index_mut.result.now (c.len-count.ensures ∙ old.ok.0) c.if-count-gt0.true)
