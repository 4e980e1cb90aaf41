use Rattle.std.proofs.Common.{length}
use Rattle.hushlang.proofs.expanding.Gathering.restart.Given as goal

abbrev pub decreases-fields : goal.decreases-fields
decreases-fields l = length l.self.whole.items
