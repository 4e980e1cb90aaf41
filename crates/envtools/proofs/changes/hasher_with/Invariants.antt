use Rattle.std.proofs.Common.{◌≡◌, map, drop, fold}
use Rattle.envimage.specs.Entries.{pair_at}
use Rattle.keyed_hash.specs.Keyed.{with_text}
use Rattle.envtools.proofs.changes.hasher_with.Given as goal

-- the names so far are after the key, and then those left
abbrev pub invariant-loop-name : goal.invariant-loop-name
invariant-loop-name l =
    fold (λ hasher change. with_text hasher change.0) l.fn.first (map pair_at l.changes)
    ≡ fold (λ hasher change. with_text hasher change.0) l.hasher (map pair_at (drop l.name-index l.changes))
