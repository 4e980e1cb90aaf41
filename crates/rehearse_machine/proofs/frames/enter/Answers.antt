use Rattle.rehearse_machine.proofs.StoreMoves.{entered_does}
use Rattle.rehearse_machine.proofs.frames.enter.Goals as goal

pub returns : goal.returns
returns g c f top = entered_does _ _ _ f c.args.child c.args.at top (c.in_ok-advance.ensures.ok) (c.in_ok-push.ensures.ok)
