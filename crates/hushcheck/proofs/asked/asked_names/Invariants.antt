use Rattle.std.proofs.Common.{◌≡◌, ◌++◌, map, take}
use Rattle.hushcheck.proofs.asked.asked_names.Given as goal

-- the names so far: those that were given, and those of the pairs so far
abbrev pub invariant-loop-pair : goal.invariant-loop-pair
invariant-loop-pair l = map (λ name. name.now) l.names.items ≡ map (λ name. name.now) l.fn.given ++ map (λ pair. pair.0.now) (take l.pair-index l.pair-items)
