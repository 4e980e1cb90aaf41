use Rattle.std.proofs.Common.{◌≤◌, length, arith}
use Rattle.rehearse_machine.proofs.ToldLemmas.{met_some}
use Rattle.rehearse_machine.proofs.told.is_met.Goals as goal

pub returns-in-len1-up : goal.returns-in-len1-up
returns-in-len1-up c =
    let some : 1 ≤ length c.args.needs.now = omega (arith, c.in-len1-up.len_at_least) in
    met_some c.args.needs.now c.args.log.now c.has_succeeded.result some c.has_succeeded.ensures
