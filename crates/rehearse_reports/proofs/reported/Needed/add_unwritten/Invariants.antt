use Rattle.std.proofs.Common.{◌≡◌, ◌++◌, length}
use Rattle.rehearse_reports.specs.Reports.{AreAlike, unwritten}
use Rattle.rehearse_reports.specs.ReportsShown.{keys_shown, needed_shown}
use Rattle.rehearse_reports.proofs.reported.Needed.add_unwritten.Given as goal

-- the keys so far, with those that are left and were not written, are those of the start
abbrev pub invariant-loop-key : goal.invariant-loop-key
invariant-loop-key l =
    AreAlike (needed_shown l.initial.self ++ unwritten (keys_shown l.written.keys) (keys_shown l.fn.keys.items)) (needed_shown l.self ++ unwritten (keys_shown l.written.keys) (keys_shown l.key-iterator.rest.items))
    × (length l.key-iterator.rest.items ≡ l.key-iterator.rest.len)
