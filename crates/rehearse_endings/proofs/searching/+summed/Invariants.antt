use Rattle.std.proofs.Common.{◌-◌}
use Rattle.rehearse_endings.proofs.searching.+summed.Given as goal

-- how many device commands may still be asked
abbrev pub decreases-summed : goal.decreases-summed
decreases-summed g l = l.rehearsal.now.bounds.devices - l.depth
