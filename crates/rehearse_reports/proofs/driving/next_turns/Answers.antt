use Rattle.rehearse_machine.specs.MovesShown.{limits_of}
use Rattle.rehearse_reports.specs.ReportsShown.{accesses_shown}
use Rattle.rehearse_reports.proofs.LoopingLemmas.{moves_follow_on}
use Rattle.rehearse_reports.proofs.driving.next_turns.Goals as goal

pub returns-then-so_far-lt-FEW_STEPS-clause-follows : goal.returns-then-so_far-lt-FEW_STEPS-clause-follows
returns-then-so_far-lt-FEW_STEPS-clause-follows g c =
    let limits = limits_of c.args.devices.now c.args.bounds in
    let old = g.S.Store.record_of c.args.store.now in
    let new = g.S.Store.record_of c.reported_turn.new.store in
    moves_follow_on limits c.reported_turn.new.fewest c.reported_turn.result old.present new.present (accesses_shown c.args.reported.now) (accesses_shown c.reported_turn.new.reported) c.requires.sound c.reported_turn.ensures.moves
