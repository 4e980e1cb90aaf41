use Rattle.std.proofs.Common.{ℕ, [], subst}
use Rattle.bootstore_state.specs.StoredState.{state_at}
use Rattle.rehearse_machine.specs.MovesShown.{limits_of, under}
use Rattle.rehearse_machine.proofs.NextMoveLemmas.{is_top}
use Rattle.rehearse_reports.specs.Begins.{BeginsWith}
use Rattle.rehearse_reports.specs.ReportsShown.{accesses_shown}
use Rattle.rehearse_reports.proofs.MoveLemmas.{last_move, move_reports}
use Rattle.rehearse_reports.proofs.moves.report_move.Goals as goal

pub returns-in_default : goal.returns-in_default
returns-in_default g c =
    let now = (g.S.Store.record_of c.args.store.now).present in
    last_move (limits_of c.args.devices.now c.args.bounds) (state_at now []) (accesses_shown c.args.reported.now) (accesses_shown c.reads.new.self) now.frames c.in_default.ensures c.in_ok-reads.ensures.covers

pub returns : goal.returns
returns g c =
    let now = (g.S.Store.record_of c.args.store.now).present in
    let f = c.in-Some.top.now in
    move_reports c.report_begun.result (limits_of c.args.devices.now c.args.bounds) (state_at now []) (accesses_shown c.args.reported.now) (accesses_shown c.reads.new.self) (accesses_shown c.report_begun.new.reported) now.frames (under now) f c.begins_in-begins.result (is_top now.frames f c.in-Some.ensures)
    (subst (λ (n : ℕ). BeginsWith c.begins_in-begins.result f n) c.get_status.ensures c.begins_in-begins.ensures) c.in_ok-reads.ensures.covers c.report_begun.ensures
