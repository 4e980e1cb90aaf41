use Rattle.std.proofs.Common.{◌≡◌, [], take, drop}
use Rattle.rehearse_rules.specs.Resuming.{ended_lines}
use Rattle.rehearse_runs.proofs.resuming.first_ended.Given as goal

-- no newline was found so far
abbrev pub invariant-loop-at : goal.invariant-loop-at
invariant-loop-at l = ended_lines (take l.at l.text) (drop l.at l.text) ≡ ended_lines [] l.text
