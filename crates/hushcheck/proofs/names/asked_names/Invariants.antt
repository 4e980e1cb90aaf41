use Rattle.std.proofs.Common.{◌≡◌, map, take}
use Rattle.hushcheck.specs.Order.{once}
use Rattle.hushcheck.proofs.names.asked_names.Given as goal

-- the names so far, each once
abbrev pub invariant-loop-name : goal.invariant-loop-name
invariant-loop-name l = l.names ≡ once (map (λ name. name.now) (take l.name-index l.asked))
