use Rattle.std.proofs.Common.{◌≡◌, ◌-◌, [], length, ◌≤◌}
use Rattle.rehearse_rules.specs.Resuming.{ended_lines, point_in, resume_point_of}
use Rattle.rehearse_runs.specs.PointShown.{point_if, name_if}
use Rattle.rehearse_runs.proofs.resuming.resume_point.Given as goal

-- the lines so far were read
abbrev pub invariant-loop-line : goal.invariant-loop-line
invariant-loop-line l = record {
  point : point_in (name_if l.word) (point_if l.point) (length l.written - length l.rest) (ended_lines [] l.rest) ≡ resume_point_of l.written;
  within : length l.rest ≤ length l.written;
}

abbrev pub decreases-loop-line : goal.decreases-loop-line
decreases-loop-line l = length l.rest
