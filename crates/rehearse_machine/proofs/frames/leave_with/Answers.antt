use Rattle.rehearse_machine.proofs.StoreMoves.{left_does}
use Rattle.rehearse_machine.proofs.frames.leave_with.Goals as goal

pub returns : goal.returns
returns g c = left_does _ _ _ c.args.status (c.in_ok-pop.ensures.ok) (c.in_ok-set_status.ensures.ok)
