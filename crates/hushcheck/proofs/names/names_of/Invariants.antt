use Rattle.std.proofs.Common.{◌≡◌, map, take}
use Rattle.hushcheck.specs.Order.{once}
use Rattle.hushcheck.proofs.names.names_of.Given as goal

-- the names so far, each once
abbrev pub invariant-loop-pair : goal.invariant-loop-pair
invariant-loop-pair l = l.names ≡ once (map (λ pair. pair.0.now) (take l.pair-index l.pair-items))
