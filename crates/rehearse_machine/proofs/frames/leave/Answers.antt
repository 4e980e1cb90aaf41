use Rattle.rehearse_machine.proofs.StoreMoves.{popped_does}
use Rattle.rehearse_machine.proofs.frames.leave.Goals as goal

pub returns : goal.returns
returns g c = popped_does _ _ (c.in_ok-pop.ensures.ok)
