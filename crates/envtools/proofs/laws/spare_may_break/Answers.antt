use Rattle.envtools.proofs.SavingLemmas.{spare_may_break}
use Rattle.envtools.proofs.laws.spare_may_break.Goals as goal

pub returns : goal.returns
returns c = spare_may_break
