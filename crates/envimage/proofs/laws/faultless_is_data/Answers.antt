use Rattle.envimage.proofs.FaultLemmas.{faultless_is_data}
use Rattle.envimage.proofs.laws.faultless_is_data.Goals as goal

pub returns : goal.returns
returns c = faultless_is_data
