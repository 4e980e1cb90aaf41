use Rattle.rehearse_machine.proofs.StoreMoves.{finished_does}
use Rattle.rehearse_machine.proofs.frames.finish.Goals as goal

pub returns : goal.returns
returns g c f top = finished_does _ _ _ f c.args.at c.args.status top (c.in_ok-advance.ensures.ok) (c.in_ok-set_status.ensures.ok)
