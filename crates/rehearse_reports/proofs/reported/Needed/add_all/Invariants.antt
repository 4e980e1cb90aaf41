use Rattle.std.proofs.Common.{◌≡◌, ◌++◌, length}
use Rattle.rehearse_reports.specs.Reports.{AreAlike}
use Rattle.rehearse_reports.specs.ReportsShown.{keys_shown, needed_shown}
use Rattle.rehearse_reports.proofs.reported.Needed.add_all.Given as goal

-- the keys so far, with those that are left, are those of the start
abbrev pub invariant-loop-key : goal.invariant-loop-key
invariant-loop-key l =
    AreAlike (needed_shown l.initial.self ++ keys_shown l.fn.keys.items) (needed_shown l.self ++ keys_shown l.key-iterator.rest.items)
    × (length l.key-iterator.rest.items ≡ l.key-iterator.rest.len)
