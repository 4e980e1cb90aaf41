use Rattle.std.proofs.Common.{◌≡◌, ◌≤◌, length, take}
use Rattle.rehearse_runs.proofs.searching.cut.Given as goal

-- only later digits were dropped
abbrev pub invariant-loop-digits : goal.invariant-loop-digits
invariant-loop-digits l = record {
  same : take l.count l.digits.items ≡ take l.count l.fn.digits.items;
  within : l.count ≤ length l.digits.items;
}

abbrev pub decreases-loop-digits : goal.decreases-loop-digits
decreases-loop-digits l = length l.digits.items
