use Rattle.rehearse_machine.specs.MovesShown.{limits_of}
use Rattle.rehearse_machine.proofs.StoppingLemmas.{stops_asked, stops_asking}
use Rattle.rehearse_machine.proofs.rehearsal.go_on.Goals as goal

pub returns-in-Asks-clause-stops : goal.returns-in-Asks-clause-stops
returns-in-Asks-clause-stops g c = stops_asking (limits_of c.args.rehearsal.now.devices.now c.args.rehearsal.now.bounds) (g.S.Store.record_of c.args.store.now) (g.S.Store.record_of c.drive.new.store) c.in-Asks.ask c.in_ok-drive.field-0 c.in-Asks.is c.in_ok-drive.ensures

pub returns-in-Asks-clause-asks : goal.returns-in-Asks-clause-asks
returns-in-Asks-clause-asks g c = stops_asked (limits_of c.args.rehearsal.now.devices.now c.args.rehearsal.now.bounds) (g.S.Store.record_of c.args.store.now) (g.S.Store.record_of c.drive.new.store) c.in-Asks.ask c.in_ok-drive.field-0 c.in-Asks.is c.in_ok-drive.ensures
