use Rattle.std.proofs.Common.{length}
use Rattle.tool_files.proofs.writing.is_written.Given as goal

abbrev pub decreases-loop-rest : goal.decreases-loop-rest
decreases-loop-rest g l = length l.rest
