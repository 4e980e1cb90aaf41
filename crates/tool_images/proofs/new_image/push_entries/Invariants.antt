use Rattle.std.proofs.Common.{◌≡◌, ◌++◌, map, take}
use Rattle.std.specs.List.{flat_map}
use Rattle.envimage.specs.Data.{entry}
use Rattle.envimage.specs.Entries.{pair_at}
use Rattle.tool_images.proofs.new_image.push_entries.Given as goal

-- the entries so far
abbrev pub invariant-loop-name : goal.invariant-loop-name
invariant-loop-name l = l.body.items ≡ l.fn.body.items ++ flat_map entry (map pair_at (take l.name-index l.pairs))
