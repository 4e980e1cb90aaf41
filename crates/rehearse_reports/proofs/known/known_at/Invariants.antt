use Rattle.std.proofs.Common.{◌≡◌, ◌++◌, length}
use Rattle.rehearse_reports.specs.ReportsShown.{keys_shown}
use Rattle.rehearse_reports.specs.Known.{keys_of, AllHold}
use Rattle.rehearse_reports.proofs.known.known_at.Given as goal

-- what is known so far, and the keys that are left
abbrev pub invariant-loop-key : goal.invariant-loop-key
invariant-loop-key g l =
    (keys_of l.known.items ++ keys_shown l.key-iterator.rest.items ≡ keys_shown l.fn.keys.items)
    × AllHold (g.S.Store.record_of l.store).present l.known.items
    × (length l.key-iterator.rest.items ≡ l.key-iterator.rest.len)
