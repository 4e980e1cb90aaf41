use Rattle.std.proofs.Common.{◌≡◌, take, map}
use Rattle.envimage.specs.Entries.{pair_at}
use Rattle.envtools.specs.Drafting.{place_of, held}
use Rattle.envtools.proofs.draft.held.Given as goal

-- the variables before this place were taken if they hold
abbrev pub invariant-loop-at : goal.invariant-loop-at
invariant-loop-at l = map pair_at l.pairs.items ≡ held (place_of l.places.entries) 0 (take l.at (map pair_at l.written))
