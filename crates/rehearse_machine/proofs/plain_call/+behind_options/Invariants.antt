use Rattle.std.proofs.Common.{length}
use Rattle.rehearse_machine.proofs.plain_call.+behind_options.Given as goal

abbrev pub decreases-behind_options : goal.decreases-behind_options
decreases-behind_options l = length l.words.now
