use Rattle.std.proofs.Common.{◌↔◌, drop}
use Rattle.envtools.specs.Listed.{Rise, RiseAfter}
use Rattle.envtools.proofs.distinct.rise.Given as goal

-- the numbers that are left rise from the last one on exactly if all do
abbrev pub invariant-loop-number : goal.invariant-loop-number
invariant-loop-number l = RiseAfter l.last (drop l.number-index l.numbers) ↔ Rise l.numbers
