use Rattle.std.proofs.Common.{◌≡◌, take}
use Rattle.envtools.proofs.env.Env.of_list.Given as goal

abbrev pub invariant-loop-at : goal.invariant-loop-at
invariant-loop-at l = l.env ≡ take l.at l.list
