use Rattle.std.proofs.Common.{[]}
use Rattle.bootstore_state.specs.StoredState.{state_at}
use Rattle.rehearse_machine.specs.MovesShown.{limits_of}
use Rattle.rehearse_reads.specs.Keys.{Environment}
use Rattle.rehearse_reports.specs.ReportsShown.{accesses_shown}
use Rattle.rehearse_reports.specs.declared.begins.Begins.TheVariants as begun
use Rattle.rehearse_reports.proofs.ReportLemmas.{reports_nothing}
use Rattle.rehearse_reports.proofs.WordLemmas.{read_as, written_as}
use Rattle.rehearse_reports.proofs.MoveLemmas.{begun_as, begun_so}
use Rattle.rehearse_reports.proofs.moves.report_begun.Goals as goal

pub returns-in-Nothing : goal.returns-in-Nothing
returns-in-Nothing g c =
    begun_so (limits_of c.args.devices.now c.args.bounds) (state_at (g.S.Store.record_of c.args.store.now).present []) (accesses_shown c.args.reported.now) (accesses_shown c.args.reported.now) c.args.begins begun.Nothing c.in-Nothing.is (reports_nothing (accesses_shown c.args.reported.now))

pub returns-in-Command : goal.returns-in-Command
returns-in-Command g c =
    begun_as c.report_command.result (limits_of c.args.devices.now c.args.bounds) (state_at (g.S.Store.record_of c.args.store.now).present []) (accesses_shown c.args.reported.now) (accesses_shown c.report_command.new.reported) c.args.begins (begun.Command c.in-Command.command) c.in-Command.is c.report_command.ensures

pub returns-in_ok-writes-in-Turn : goal.returns-in_ok-writes-in-Turn
returns-in_ok-writes-in-Turn g c =
    begun_so (limits_of c.args.devices.now c.args.bounds) (state_at (g.S.Store.record_of c.args.store.now).present []) (accesses_shown c.args.reported.now) (accesses_shown c.writes.new.self) c.args.begins (begun.Turn c.in-Turn.name) c.in-Turn.is
    (written_as (accesses_shown c.args.reported.now) (accesses_shown c.writes.new.self) c.in-Turn.name.now c.in_ok-from_slice-in-Turn.field-0.items c.in_ok-from_slice-in-Turn.ensures.items c.in_ok-writes-in-Turn.ensures.covers)

pub returns-in_ok-reads-in-Text : goal.returns-in_ok-reads-in-Text
returns-in_ok-reads-in-Text g c =
    begun_so (limits_of c.args.devices.now c.args.bounds) (state_at (g.S.Store.record_of c.args.store.now).present []) (accesses_shown c.args.reported.now) (accesses_shown c.reads.new.self) c.args.begins (begun.Text c.in-Text.name) c.in-Text.is
    (read_as (accesses_shown c.args.reported.now) (accesses_shown c.reads.new.self) c.in-Text.name.now c.in_ok-from_slice-in-Text.field-0.items Environment c.in_ok-from_slice-in-Text.ensures.items c.in_ok-reads-in-Text.ensures.covers)
