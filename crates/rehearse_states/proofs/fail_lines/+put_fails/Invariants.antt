use Rattle.std.proofs.Common.{length}
use Rattle.rehearse_states.proofs.fail_lines.+put_fails.Given as goal

abbrev pub decreases-put_fails : goal.decreases-put_fails
decreases-put_fails l = length l.outcomes.now
