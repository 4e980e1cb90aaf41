use Rattle.std.proofs.Common.{◌≡◌, map, drop}
use Rattle.envimage.specs.Entries.{pair_at}
use Rattle.envtools.specs.Changes.{with_changes}
use Rattle.envtools.proofs.changes.make_all.Given as goal

-- the changes so far are made, and then those left
abbrev pub invariant-loop-name : goal.invariant-loop-name
invariant-loop-name l = with_changes l.fn.draft (map pair_at l.changes) ≡ with_changes l.draft (map pair_at (drop l.name-index l.changes))
