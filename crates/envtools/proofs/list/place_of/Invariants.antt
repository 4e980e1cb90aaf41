use Rattle.std.proofs.Common.{◌≡◌, false, map, take}
use Rattle.std.specs.List.{list_any}
use Rattle.envimage.specs.Entries.{pair_at}
use Rattle.envtools.specs.Environment.{same}
use Rattle.envtools.proofs.list.place_of.Given as goal

-- no variable so far has the name
abbrev pub invariant-loop-at : goal.invariant-loop-at
invariant-loop-at l = list_any (λ p. same l.name p.0) (take l.at (map pair_at l.pairs)) ≡ false
