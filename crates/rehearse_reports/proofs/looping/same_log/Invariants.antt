use Rattle.std.proofs.Common.{◌≡◌, take, ◌++◌}
use Rattle.rehearse_reports.proofs.looping.same_log.Given as goal

-- the entries so far are the same
abbrev pub invariant-loop-entry : goal.invariant-loop-entry
invariant-loop-entry l = l.initial.others ≡ take l.entry-index l.a ++ l.others
