use Rattle.std.proofs.Common.{◌≡◌, map, take}
use Rattle.rehearse_causes.specs.Numbers.{part_numbers}
use Rattle.rehearse_causes.proofs.number.part_numbers.Given as goal

-- the numbers of the parts of the commands so far
abbrev pub invariant-loop-entry : goal.invariant-loop-entry
invariant-loop-entry l = l.sums.items ≡ part_numbers (map (λ e. e.words) (take l.entry-index l.fails))
