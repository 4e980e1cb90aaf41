use Rattle.std.proofs.Common.{ap, ◌∙◌, reverse}
use Rattle.bootstore_trail.specs.Inverse.{marked_before}
use Rattle.bootstore_state.specs.Present.{moment_of}
use Rattle.bootstore_trail.proofs.TrailLemmas.{marked_echo, same_record}
use Rattle.bootstore_trail.proofs.trail.TrailStore.echo.Goals as goal

pub returns-clause-ok : goal.returns-clause-ok
returns-clause-ok c =
    let old = c.args.self.now in
    let m = moment_of old.present in
    let written = c.in_ok-add_text.ensures.ok in
    same_record _ _ _ _ old.begun (ap (λ t. record m { text = t }) written)
    (ap (λ t. marked_before (record m { text = t }) (reverse old.kept.items)) written ∙ marked_echo m _ _ old.can.leads c.args.written.now)
