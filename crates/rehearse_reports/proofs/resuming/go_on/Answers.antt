use Rattle.rehearse_machine.specs.MovesShown.{limits_of}
use Rattle.rehearse_machine.proofs.StoppingLemmas.{stops_asking}
use Rattle.rehearse_reports.specs.ReportsShown.{accesses_shown}
use Rattle.rehearse_reports.proofs.OutcomeLemmas.{all_follow_asking, all_follow_ended}
use Rattle.rehearse_reports.proofs.resuming.go_on.Goals as goal

pub returns-in-Asks-clause-stops : goal.returns-in-Asks-clause-stops
returns-in-Asks-clause-stops g c = stops_asking (limits_of c.args.rehearsal.now.devices.now c.args.rehearsal.now.bounds) (g.S.Store.record_of c.args.store.now) (g.S.Store.record_of c.reported_drive.new.store) c.in-Asks.field-0 c.in_ok-reported_drive.field-0 c.in-Asks.is c.in_ok-reported_drive.ensures.drives

pub returns-in-Asks-clause-follows : goal.returns-in-Asks-clause-follows
returns-in-Asks-clause-follows g c =
    all_follow_asking (limits_of c.args.rehearsal.now.devices.now c.args.rehearsal.now.bounds) c.reported_drive.new.fewest (g.S.Store.record_of c.args.store.now) (g.S.Store.record_of c.reported_drive.new.store) c.in_ok-reported_drive.field-0 c.in-Asks.field-0 (accesses_shown c.args.reported.now) (accesses_shown c.reported_drive.new.reported) c.in-Asks.is c.in_ok-reported_drive.ensures.drives c.in_ok-reported_drive.ensures.frames c.in_ok-reported_drive.ensures.follows

pub returns-clause-follows : goal.returns-clause-follows
returns-clause-follows g c =
    all_follow_ended (limits_of c.args.rehearsal.now.devices.now c.args.rehearsal.now.bounds) c.reported_drive.new.fewest (g.S.Store.record_of c.args.store.now).present (g.S.Store.record_of c.reported_drive.new.store).present c.in_ok-reported_drive.field-0 c.in-Ends.halt (accesses_shown c.args.reported.now) (accesses_shown c.reported_drive.new.reported) c.in-Ends.is c.in_ok-reported_drive.ensures.follows

pub returns-in-Asks-clause-frames : goal.returns-in-Asks-clause-frames
returns-in-Asks-clause-frames g c = rw c.in-Asks.is at c.in_ok-reported_drive.ensures.frames
