use Rattle.std.proofs.Common.{◌≡◌, ◌∙◌, sym, ap}
use Rattle.device_list.specs.DeviceList.{Devices}
use Rattle.rehearse_records.specs.RunViewShown.{shown_ending, shown_moment}
use Rattle.rehearse_rules.specs.Expected.{asked_in, unexpected_of}
use Rattle.rehearse_rules.specs.Runs.{Task}
use Rattle.rehearse_runs.specs.RunsShown.{last_given}
use Rattle.rehearse_runs.proofs.ListingLemmas.{given_by}
use Rattle.rehearse_causes.specs.Causes.{Cause}
use Rattle.rehearse_causes.proofs.KeptLemmas.{gathered_more}
use Rattle.rehearse_causes.proofs.LeastLemmas.{cause_shown}
use Rattle.rehearse_causes.proofs.least.gathered.Goals as goal

pub loop-kept-preserved : goal.loop-kept-preserved
loop-kept-preserved g c =
    let new = c.next.follows.lender-at-none in
    let m = given_by g.S.Store c.loop-kept.runs new c.next.result c.in_ok-view.field-0 c.in-Some.view c.in_ok-view.was c.in-Some.is c.next.follows.holds-at-none in
    let made : Devices → Cause = λ devices. record { ending = shown_ending c.in-Some.view; fails = unexpected_of devices (asked_in (shown_moment g.S.Store c.in-Some.view).log) } in
    let same : c.devices-devices.result.now ≡ new.task.limits.devices = c.devices-devices.ensures ∙ sym (ap (λ (task : Task). task.limits.devices) (m.0.task ∙ c.loop-kept.invariant.1.task)) in (
      c.in-Ok-keep.ensures.noted,
      gathered_more new c.in-Ok.cause c.keep.new.self.causes.items c.loop-kept.invariant.1 m.0 (c.in-Ok.ensures ∙ ap made same ∙ cause_shown g.S.Store new.task (last_given new) c.in-Some.view m.1) c.in-Ok-keep.ensures.causes,
    )
