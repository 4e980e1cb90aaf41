use Rattle.std.proofs.Common.{length}
use Rattle.rehearse_runs.proofs.walking.+walk.Given as goal

-- the digits that are left
abbrev pub decreases-walk : goal.decreases-walk
decreases-walk g l = length l.text.now
