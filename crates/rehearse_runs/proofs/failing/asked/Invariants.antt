use Rattle.std.proofs.Common.{◌≡◌, ◌≤◌, take, length}
use Rattle.rehearse_rules.specs.Expected.{asked_in}
use Rattle.rehearse_runs.proofs.failing.asked.Given as goal

-- those so far
abbrev pub invariant-loop-entry : goal.invariant-loop-entry
invariant-loop-entry l = (l.count ≡ length (asked_in (take l.entry-index l.log))) × (l.count ≤ l.entry-index)
