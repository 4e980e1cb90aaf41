use Rattle.std.proofs.Common.{take}
use Rattle.rehearse_reports.specs.Known.{AllHold}
use Rattle.rehearse_reports.proofs.known.all_hold.Given as goal

-- those so far hold
abbrev pub invariant-loop-one : goal.invariant-loop-one
invariant-loop-one g l = AllHold (g.S.Store.record_of l.store).present (take l.one-index l.known)
