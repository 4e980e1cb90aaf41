use Rattle.std.proofs.Common.{◌≡◌, take}
use Rattle.hushcheck.specs.CallSetsShown.{names_shown}
use Rattle.hushcheck.specs.Order.{with_names}
use Rattle.hushcheck.proofs.names.Names.add_all.Given as goal

-- the names so far were added
abbrev pub invariant-loop-name : goal.invariant-loop-name
invariant-loop-name l = l.self ≡ with_names l.fn.self (names_shown (take l.name-index l.more))
