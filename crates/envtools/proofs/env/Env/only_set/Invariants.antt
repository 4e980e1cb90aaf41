use Rattle.std.proofs.Common.{◌≡◌, take}
use Rattle.std.specs.Prelude.{filter}
use Rattle.envtools.specs.Importing.{is_set}
use Rattle.envtools.proofs.env.Env.only_set.Given as goal

abbrev pub invariant-loop-place : goal.invariant-loop-place
invariant-loop-place l = l.env ≡ filter is_set (take l.place l.self)
