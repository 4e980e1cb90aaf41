use Rattle.std.proofs.Common.{ap, sym, ◌∙◌}
use Rattle.text.specs.TextsShown.{option_bytes}
use Rattle.bootstore_state.proofs.StateLemmas.{stored_values}
use Rattle.rehearse_reads.specs.Keys.{Environment, Local}
use Rattle.rehearse_reports.specs.Reports.{memory_at}
use Rattle.rehearse_reports.specs.ReportsShown.{accesses_shown}
use Rattle.rehearse_reports.proofs.WordLemmas.{read_as, variable_set, variable_unset}
use Rattle.rehearse_reports.proofs.words.report_variable.Goals as goal

pub returns-in-Some : goal.returns-in-Some
returns-in-Some g c =
    let now = (g.S.Store.record_of c.args.store.now).present in
    variable_set (accesses_shown c.args.reported.now) (accesses_shown c.reads.new.self) (memory_at now) c.args.name.now c.in-Some.field-0.now (stored_values now.environment c.args.name.now ∙ sym c.get_env.ensures ∙ ap option_bytes c.in-Some.is)
    (read_as (accesses_shown c.args.reported.now) (accesses_shown c.reads.new.self) c.args.name.now c.in_ok-from_slice.field-0.items Environment c.in_ok-from_slice.ensures.items c.in_ok-reads.ensures.covers)

pub returns-in_ok-reads-in-None : goal.returns-in_ok-reads-in-None
returns-in_ok-reads-in-None g c =
    let now = (g.S.Store.record_of c.args.store.now).present in
    variable_unset (accesses_shown c.args.reported.now) (accesses_shown c.reads.new.self) (accesses_shown c.reads-in-None.new.self) (memory_at now) c.args.name.now (stored_values now.environment c.args.name.now ∙ sym c.get_env.ensures ∙ ap option_bytes c.in-None.is)
    (read_as (accesses_shown c.args.reported.now) (accesses_shown c.reads.new.self) c.args.name.now c.in_ok-from_slice.field-0.items Environment c.in_ok-from_slice.ensures.items c.in_ok-reads.ensures.covers)
    (read_as (accesses_shown c.reads.new.self) (accesses_shown c.reads-in-None.new.self) c.args.name.now c.in_ok-from_slice-in-None.field-0.items Local c.in_ok-from_slice-in-None.ensures.items c.in_ok-reads-in-None.ensures.covers)
