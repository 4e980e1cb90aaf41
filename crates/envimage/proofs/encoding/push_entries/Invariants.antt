use Rattle.std.proofs.Common.{◌≡◌, ◌++◌, map, take}
use Rattle.std.specs.List.{flat_map}
use Rattle.envimage.specs.Data.{entry}
use Rattle.envimage.specs.Entries.{pair_at}
use Rattle.envimage.proofs.encoding.push_entries.Given as goal

abbrev pub invariant-loop-name : goal.invariant-loop-name
invariant-loop-name l = l.out.items ≡ l.fn.out.items ++ flat_map entry (map pair_at (take l.name-index l.pairs))
