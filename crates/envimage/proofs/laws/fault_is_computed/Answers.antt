use Rattle.envimage.proofs.FaultLemmas.{fault_is_computed}
use Rattle.envimage.proofs.laws.fault_is_computed.Goals as goal

pub returns : goal.returns
returns c = fault_is_computed
