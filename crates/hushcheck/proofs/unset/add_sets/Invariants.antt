use Rattle.std.proofs.Common.{◌≡◌, take}
use Rattle.std.specs.List.{flat_map}
use Rattle.hushcheck.specs.CallSetsShown.{names_shown}
use Rattle.hushcheck.specs.Order.{with_names}
use Rattle.hushcheck.proofs.unset.add_sets.Given as goal

-- the names that the texts so far set were added
abbrev pub invariant-loop-text : goal.invariant-loop-text
invariant-loop-text l = l.names ≡ with_names l.fn.names (flat_map (λ u. names_shown u.sets.items) (take l.text-index l.used))
