use Rattle.std.proofs.Common.{◌≡◌, length, reverse}
use Rattle.rehearse_reports.specs.Looping.{below_run}
use Rattle.rehearse_reports.proofs.driving.below_run.Given as goal

-- no frame so far is a `run`
abbrev pub invariant-loop-frame : goal.invariant-loop-frame
invariant-loop-frame l = below_run (reverse l.left) ≡ below_run (reverse l.frames)

abbrev pub decreases-loop-frame : goal.decreases-loop-frame
decreases-loop-frame l = length l.left
