use Rattle.std.proofs.Common.{◌≡◌, ◌∙◌, ◌&&◌, ap, filter, List, map, not}
use Rattle.rehearse_terms.specs.State.{LoggedCommand}
use Rattle.rehearse_rules.specs.Execution.{Ending}
use Rattle.rehearse_rules.specs.Expected.{Answered, asked_in, is_unexpected, unexpected_of}
use Rattle.rehearse_records.specs.RunViewShown.{shown_ending, shown_moment}
use Rattle.rehearse_causes.specs.Causes.{Cause}
use Rattle.rehearse_causes.proofs.CoveringLemmas.{failing_answers}
use Rattle.rehearse_causes.proofs.cause.Cause.of.Goals as goal

pub returns : goal.returns
returns g c =
    let made : Ending → List Answered → Cause = λ ending fails. record { ending = ending; fails = fails } in
    let devices = c.args.devices.now in
    let entries = c.in_ok-fails.fails.items in
    let log = (shown_moment g.S.Store c.args.view.now).log in
    let failing : List LoggedCommand → List LoggedCommand = λ log. filter (λ e. not e.again && is_unexpected devices (e.success, e.words)) log in
    let fails : map (λ e. (e.success, e.words)) entries ≡ unexpected_of devices (asked_in log) =
    ap (λ (es : List LoggedCommand). map (λ e. (e.success, e.words)) es) (c.in_ok-fails.ensures ∙ ap failing c.log.ensures) ∙ failing_answers devices log in
    ap (λ (e : Ending). made e (map (λ e. (e.success, e.words)) entries)) (c.in_ok-halt.ensures ∙ c.ending.ensures)
    ∙ ap (made (shown_ending c.args.view.now)) fails
