use Rattle.std.proofs.Common.{◌≡◌, take}
use Rattle.rehearse_causes.specs.Numbers.{each_with}
use Rattle.rehearse_causes.proofs.number.each_with.Given as goal

-- each of the numbers so far, without the new one and with it
abbrev pub invariant-loop-sum : goal.invariant-loop-sum
invariant-loop-sum l = l.made.items ≡ each_with (take l.sum-index l.sums) l.number
