use Rattle.std.proofs.Common.{◌≡◌, map, take}
use Rattle.envimage.specs.Entries.{pair_at}
use Rattle.envtools.proofs.env.Env.pairs.Given as goal

abbrev pub invariant-loop-place : goal.invariant-loop-place
invariant-loop-place l = map pair_at l.pairs.items ≡ take l.place l.self
