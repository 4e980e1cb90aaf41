use Rattle.std.proofs.Common.{ap, ◌∙◌, ◌≡◌, ◌<◌, ◌⊎◌, reverse, sym, subst}
use Rattle.std.proofs.lemmas.List.{length-reverse}
use Rattle.bootstore_trail.specs.Inverse.{marked_before}
use Rattle.bootstore_state.specs.Present.{moment_of}
use Rattle.bootstore_state.specs.Record.{changed, without_frame}
use Rattle.bootstore_trail.proofs.TrailLemmas.{marked_popped, popped, same_record}
use Rattle.bootstore_trail.proofs.trail.TrailStore.pop.Goals as goal

pub returns-clause-ok : goal.returns-clause-ok
returns-clause-ok c =
    let kept = c.keep_top.new.self in
    let frames = kept.present.frames in
    let m = moment_of kept.present in
    let touched = subst (λ n. (kept.since.untouched < n) ⊎ (n ≡ 0)) (sym (length-reverse frames.items)) c.in_ok-keep_top.ensures.touched in
    let taken = popped frames.items _ _ frames.ok.0 c.pop.ensures.rest in
    same_record _ _ _ _ kept.begun (ap (λ fs. record m { frames = fs }) taken)
    (ap (λ fs. marked_before (record m { frames = fs }) (reverse kept.kept.items)) taken ∙ marked_popped m _ _ kept.can.leads touched)
    ∙ ap (changed without_frame) c.in_ok-keep_top.ensures.record
