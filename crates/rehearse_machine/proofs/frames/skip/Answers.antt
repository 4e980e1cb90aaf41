use Rattle.std.proofs.Common.{subst, sym}
use Rattle.bootstore_state.specs.Record.{Record}
use Rattle.rehearse_machine.specs.MovesShown.{IsTop}
use Rattle.rehearse_machine.proofs.StoreMoves.{skipped_does}
use Rattle.rehearse_machine.proofs.frames.skip.Goals as goal

pub returns : goal.returns
returns g c f top = skipped_does c.enter.result _ _ _ f c.args.child c.args.at c.args.status c.in_ok-change_status.ensures (c.enter.ensures f (subst (λ (r : Record). IsTop f r.present) (sym c.in_ok-change_status.ensures) top))
