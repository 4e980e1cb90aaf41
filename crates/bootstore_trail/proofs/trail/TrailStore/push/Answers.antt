use Rattle.std.proofs.Common.{ap, ◌∙◌, reverse}
use Rattle.bootstore_trail.specs.Inverse.{marked_before}
use Rattle.bootstore_state.specs.Present.{moment_of}
use Rattle.bootstore_trail.proofs.TrailLemmas.{marked_pushed, reverse_last, same_record}
use Rattle.bootstore_trail.proofs.trail.TrailStore.push.Goals as goal

pub returns-clause-ok : goal.returns-clause-ok
returns-clause-ok c =
    let old = c.args.self.now in
    let m = moment_of old.present in
    let pushed = reverse_last _ _ _ c.in_ok-push.ensures.items in
    same_record _ _ _ _ old.begun (ap (λ fs. record m { frames = fs }) pushed)
    (ap (λ fs. marked_before (record m { frames = fs }) (reverse old.kept.items)) pushed ∙ marked_pushed m _ _ old.can.leads c.args.frame)
