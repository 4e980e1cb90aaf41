use Rattle.std.proofs.Common.{◌≡◌, ◌++◌, drop, map}
use Rattle.envimage.specs.Entries.{pair_at}
use Rattle.ubtool.specs.BootsOfFiles.{values_asked}
use Rattle.ubtool.proofs.boots.values_of.Given as goal

-- the values so far, and then those left
abbrev pub invariant-loop-value : goal.invariant-loop-value
invariant-loop-value l = map pair_at l.pairs.items ++ values_asked (drop l.value-index l.values) ≡ values_asked l.values
