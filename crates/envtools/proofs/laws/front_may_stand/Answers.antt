use Rattle.envtools.proofs.SavingLemmas.{front_may_stand}
use Rattle.envtools.proofs.laws.front_may_stand.Goals as goal

pub returns : goal.returns
returns c = front_may_stand
