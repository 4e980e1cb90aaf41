use Rattle.std.proofs.Common.{length}
use Rattle.rehearse_causes.specs.Keeping.{AreNoted}
use Rattle.rehearse_causes.proofs.KeptLemmas.{Gathered}
use Rattle.rehearse_causes.proofs.least.gathered.Given as goal

-- what is kept of the runs so far
abbrev pub invariant-loop-kept : goal.invariant-loop-kept
invariant-loop-kept g l = AreNoted l.kept × Gathered l.fn.runs l.runs l.kept.causes.items

abbrev pub decreases-loop-kept : goal.decreases-loop-kept
decreases-loop-kept g l = length l.runs.to_come
