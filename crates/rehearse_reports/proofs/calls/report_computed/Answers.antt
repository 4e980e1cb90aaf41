use Rattle.std.proofs.Common.{◌∙◌}
use Rattle.commands.specs.declared.computed.Computed.TheVariants as names
use Rattle.rehearse_reports.specs.ReportsShown.{accesses_shown}
use Rattle.rehearse_reports.proofs.CallLemmas.{gives_so, exists_so, number_so, computed_as}
use Rattle.rehearse_reports.proofs.calls.report_computed.Goals as goal

pub returns-in-Gives : goal.returns-in-Gives
returns-in-Gives c = gives_so (accesses_shown c.args.reported.now) (accesses_shown c.args.reported.now) c.args.computed c.in-Gives.field-0 c.in-Gives.is

pub returns-in_ok-reads-in-Exists : goal.returns-in_ok-reads-in-Exists
returns-in_ok-reads-in-Exists c =
    exists_so (accesses_shown c.args.reported.now) (accesses_shown c.reads.new.self) c.args.computed c.in-Exists.name c.in_ok-from_slice-in-Exists.field-0.items c.in-Exists.is c.in_ok-from_slice-in-Exists.ensures.items c.in_ok-reads-in-Exists.ensures.covers

pub returns-in-Sets : goal.returns-in-Sets
returns-in-Sets c = computed_as (accesses_shown c.args.reported.now) (accesses_shown c.report_setenv.new.reported) c.args.computed c.report_setenv.result (names.Sets c.in-Sets.words) c.in-Sets.is c.report_setenv.ensures

pub returns-in-Deletes : goal.returns-in-Deletes
returns-in-Deletes c = computed_as (accesses_shown c.args.reported.now) (accesses_shown c.report_deletions.new.reported) c.args.computed c.report_deletions.result (names.Deletes c.in-Deletes.names) c.in-Deletes.is c.report_deletions.ensures

pub returns-in_ok-writes-in-SetsNumber : goal.returns-in_ok-writes-in-SetsNumber
returns-in_ok-writes-in-SetsNumber c =
    number_so (accesses_shown c.args.reported.now) (accesses_shown c.writes.new.self) c.args.computed c.in-SetsNumber.name c.in-SetsNumber.field-1 c.in_ok-from_slice-in-SetsNumber.field-0.items c.in-SetsNumber.is c.in_ok-from_slice-in-SetsNumber.ensures.items c.in_ok-writes-in-SetsNumber.ensures.covers
