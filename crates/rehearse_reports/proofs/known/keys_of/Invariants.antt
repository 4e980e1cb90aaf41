use Rattle.std.proofs.Common.{◌≡◌, take}
use Rattle.rehearse_reports.specs.ReportsShown.{keys_shown}
use Rattle.rehearse_reports.specs.Known.{keys_of}
use Rattle.rehearse_reports.proofs.known.keys_of.Given as goal

-- the keys so far
abbrev pub invariant-loop-one : goal.invariant-loop-one
invariant-loop-one l = keys_shown l.keys.items ≡ keys_of (take l.one-index l.known)
