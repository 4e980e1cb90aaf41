use Rattle.std.proofs.Common.{◌-◌, length}
use Rattle.rehearse_runs.proofs.searching.+search.Given as goal

-- how many device commands may still be asked
abbrev pub decreases-search : goal.decreases-search
decreases-search g l = 1001 - length l.digits.now.items
