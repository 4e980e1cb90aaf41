use Rattle.envtools.proofs.SavingLemmas.{saved_is_loaded}
use Rattle.envtools.proofs.laws.saved_is_loaded.Goals as goal

pub returns : goal.returns
returns c = saved_is_loaded
