use Rattle.envimage.proofs.FaultLemmas.{each_fault_is_defined}
use Rattle.envimage.proofs.laws.each_fault_is_defined.Goals as goal

pub returns : goal.returns
returns c = each_fault_is_defined
