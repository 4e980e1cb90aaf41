use Rattle.std.proofs.Common.{◌≡◌, ◌*◌, ◌≤◌, drop}
use Rattle.board_start.specs.Start.{choices}
use Rattle.board_start.specs.StartShown.{givens_shown}
use Rattle.board_start.proofs.values.count.Given as goal

-- the alternatives so far, with each of those of the names left
abbrev pub invariant-loop-at : goal.invariant-loop-at
invariant-loop-at l = (choices (givens_shown l.givens.entries) ≡ l.count * choices (givens_shown (drop l.at l.givens.entries))) × (l.count ≤ 64) × (1 ≤ l.count)
