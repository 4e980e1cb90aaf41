use Rattle.std.proofs.Common.{ap, ◌∙◌, ◌≡◌, ◌<◌, ◌⊎◌, reverse, sym, subst}
use Rattle.std.proofs.lemmas.List.{length-reverse}
use Rattle.bootstore_trail.specs.Inverse.{marked_before}
use Rattle.bootstore_state.specs.Present.{moment_of}
use Rattle.bootstore_state.specs.Record.{changed, with_place}
use Rattle.bootstore_trail.proofs.TrailLemmas.{marked_moved, same_record}
use Rattle.bootstore_trail.proofs.trail.TrailStore.advance.Goals as goal

pub returns-clause-ok : goal.returns-clause-ok
returns-clause-ok c =
    let kept = c.keep_top.new.self in
    let m = moment_of kept.present in
    let touched = subst (λ n. (kept.since.untouched < n) ⊎ (n ≡ 0)) (sym (length-reverse kept.present.frames.items)) c.in_ok-keep_top.ensures.touched in
    same_record _ _ _ _ kept.begun c.advance.ensures.moved
    (ap (λ n. marked_before n (reverse kept.kept.items)) c.advance.ensures.moved ∙ marked_moved m _ _ kept.can.leads c.args.place touched)
    ∙ ap (changed (with_place c.args.place)) c.in_ok-keep_top.ensures.record
