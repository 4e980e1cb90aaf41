use Rattle.rehearse_machine.proofs.StoreMoves.{advanced_does}
use Rattle.rehearse_machine.proofs.frames.go_on.Goals as goal

pub returns : goal.returns
returns g c f top = advanced_does _ _ f c.args.at top (c.in_ok-advance.ensures.ok)
