use Rattle.std.proofs.Common.{◌≡◌, take}
use Rattle.envtools.proofs.draft.Draft.of.Given as goal

abbrev pub invariant-loop-at : goal.invariant-loop-at
invariant-loop-at l = l.draft ≡ take l.at l.list
