use Rattle.rehearse_frames.proofs.EnoughKeys.{moments_go_alike}
use Rattle.rehearse_frames.proofs.laws.moments_go_alike.Goals as goal

pub returns : goal.returns
returns c = moments_go_alike
