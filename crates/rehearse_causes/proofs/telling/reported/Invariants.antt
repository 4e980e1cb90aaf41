use Rattle.std.proofs.Common.{◌≡◌, not, filter}
use Rattle.rehearse_causes.specs.CauseLines.{is_booted}
use Rattle.rehearse_causes.proofs.telling.reported.Given as goal

-- those of the causes so far that do not boot
abbrev pub invariant-loop-cause : goal.invariant-loop-cause
invariant-loop-cause l = l.told.items ≡ filter (λ c. not (is_booted c.ending)) l.yielded
