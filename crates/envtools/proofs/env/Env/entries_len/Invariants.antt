use Rattle.std.proofs.Common.{◌≡◌, ◌-◌, ◌^◌, min, length, take}
use Rattle.std.specs.List.{flat_map}
use Rattle.envimage.specs.Data.{entry}
use Rattle.envtools.proofs.env.Env.entries_len.Given as goal

abbrev pub invariant-loop-place : goal.invariant-loop-place
invariant-loop-place l = l.total ≡ min (length (flat_map entry (take l.place l.self))) (2 ^ 64 - 1)
