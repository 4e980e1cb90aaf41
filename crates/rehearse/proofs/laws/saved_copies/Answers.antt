use Rattle.rehearse.proofs.SavedLemmas.{saves_what_is_there}
use Rattle.rehearse.proofs.laws.saved_copies.Goals as goal

pub returns : goal.returns
returns c = saves_what_is_there
