use Rattle.std.proofs.Common.{◌≡◌, ◌≤◌, length, drop, reverse}
use Rattle.board_start.specs.Start.{chosen_from}
use Rattle.board_start.specs.StartShown.{givens_shown, pairs_shown}
use Rattle.board_start.proofs.start.Start.chosen.Given as goal

-- the variables after this place, the last one first, and what is left of the place of the alternative
abbrev pub invariant-loop-at : goal.invariant-loop-at
invariant-loop-at l = (chosen_from (givens_shown (drop l.at l.self-inside.givens.entries)) l.place ≡ (reverse (pairs_shown l.pairs.items), l.left)) × (l.at ≤ length l.self-inside.givens.entries)

abbrev pub decreases-loop-at : goal.decreases-loop-at
decreases-loop-at l = l.at
