use Rattle.std.proofs.Common.{◌≡◌, length, map}
use Rattle.rehearse_states.specs.SumNodes.{sum_shown}
use Rattle.rehearse_states.specs.SumRows.{AreUses}
use Rattle.rehearse_states.proofs.sum_rows.last_uses.Given as goal

-- the uses so far
abbrev pub invariant-loop-at : goal.invariant-loop-at
invariant-loop-at l = record { many : length l.last.items ≡ l.at; uses : AreUses (map sum_shown l.nodes) l.last.items l.at }
