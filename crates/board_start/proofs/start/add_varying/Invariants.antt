use Rattle.std.proofs.Common.{◌≡◌, ◌++◌, drop, filter}
use Rattle.std.specs.List.{flat_map}
use Rattle.board_start.specs.Start.{pair_text, varies}
use Rattle.board_start.specs.StartShown.{givens_shown, pairs_shown}
use Rattle.board_start.proofs.start.add_varying.Given as goal

-- the variables so far, and then those left
abbrev pub invariant-loop-name : goal.invariant-loop-name
invariant-loop-name l = l.fn.line.items ++ flat_map pair_text (filter (λ p. varies (givens_shown l.givens.entries) p.0) (pairs_shown l.pairs)) ≡ l.line.items ++ flat_map pair_text (filter (λ p. varies (givens_shown l.givens.entries) p.0) (pairs_shown (drop l.name-index l.pairs)))
