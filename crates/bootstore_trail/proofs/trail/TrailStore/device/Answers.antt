use Rattle.std.proofs.Common.{ap, ◌∙◌, reverse}
use Rattle.bootstore_trail.specs.Inverse.{marked_before}
use Rattle.bootstore_state.specs.Present.{moment_of}
use Rattle.bootstore_trail.proofs.TrailLemmas.{marked_device, same_record}
use Rattle.bootstore_trail.proofs.trail.TrailStore.device.Goals as goal

pub returns-clause-ok : goal.returns-clause-ok
returns-clause-ok c =
    let old = c.args.self.now in
    let m = moment_of old.present in
    let logged = c.in_ok-push.ensures.ok in
    same_record _ _ _ _ old.begun (ap (λ l. record m { log = l }) logged)
    (ap (λ l. marked_before (record m { log = l }) (reverse old.kept.items)) logged ∙ marked_device m _ _ old.can.leads c.args.entry)
