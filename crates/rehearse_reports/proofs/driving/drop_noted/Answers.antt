use Rattle.std.proofs.Common.{arith, length}
use Rattle.rehearse_reports.proofs.DropLemmas.{drops_noted, run_thrice}
use Rattle.rehearse_reports.proofs.StepLemmas.{as_long, keeps_above}
use Rattle.rehearse_reports.proofs.driving.drop_noted.Goals as goal

pub returns-else-frames-before-clause-alike : goal.returns-else-frames-before-clause-alike
returns-else-frames-before-clause-alike g c =
    let old = g.S.Store.record_of c.args.store.now in
    let new = g.S.Store.record_of c.drop_ended.new.store in
    let before = as_long c.frames-before.result.now old.present.frames c.frames-before.ensures in
    let now = as_long c.frames.result.now new.present.frames c.frames.ensures in
    let same = c.if-frames-before.false in
    keeps_above c.args.fewest.now old new c.in_ok-drop_ended.ensures (omega (arith, same))

pub returns-then-frames-before-clause-alike : goal.returns-then-frames-before-clause-alike
returns-then-frames-before-clause-alike g c =
    let old = g.S.Store.record_of c.args.store.now in
    let new = g.S.Store.record_of c.drop_ended.new.store in
    let many = run_thrice c.frames-then-frames-before.result.now c.below_run.result.now c.below_run-then-frames-before.result.now c.below_run-lowest.result.now new.present.frames
    c.frames-then-frames-before.ensures c.below_run.ensures c.below_run-then-frames-before.ensures c.below_run-lowest.ensures in
    drops_noted c.min.result c.args.fewest.now (length c.below_run-lowest.result.now) old new c.min.ensures many c.in_ok-drop_ended.ensures
