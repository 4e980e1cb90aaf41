use Rattle.envtools.proofs.EntryLaws.{entries_stand_apart}
use Rattle.envtools.proofs.laws.entries_stand_apart.Goals as goal

pub returns : goal.returns
returns c = entries_stand_apart
