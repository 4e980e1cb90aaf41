use Rattle.std.proofs.Common.{◌≤◌, arith, length}
use Rattle.rehearse_machine.specs.MovesShown.{limits_of}
use Rattle.rehearse_reports.proofs.StepLemmas.{as_long, least_of, steps_above}
use Rattle.rehearse_reports.proofs.driving.reported_step.Goals as goal

pub returns-clause-above : goal.returns-clause-above
returns-clause-above g c =
    let limits = limits_of c.args.devices.now c.args.bounds in
    let old = (g.S.Store.record_of c.args.store.now).present in
    let new = (g.S.Store.record_of c.step.new.store).present in
    let least = least_of c.args.fewest.now (length c.frames-before.result.now) c.frames_left-left.result c.min.result c.min-2.result c.min.ensures c.min-2.ensures in
    let before = as_long c.frames-before.result.now old.frames c.frames-before.ensures in
    let all : c.min-2.result ≤ length old.frames = (let first = least.0 in omega arith) in
    steps_above limits c.min-2.result c.frames_left-left.result old c.in_ok-step.step new all least.1 c.frames_left-left.ensures c.in_ok-step.ensures.0
