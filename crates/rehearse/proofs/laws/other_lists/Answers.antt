use Rattle.rehearse.proofs.OtherLists.{other_lists_stay}
use Rattle.rehearse.proofs.laws.other_lists.Goals as goal

pub returns : goal.returns
returns c = other_lists_stay
