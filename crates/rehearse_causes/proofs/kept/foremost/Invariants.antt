use Rattle.std.proofs.Common.{◌≡◌}
use Rattle.rehearse_causes.specs.Keeping.{AreNoted, foremost}
use Rattle.rehearse_causes.proofs.kept.foremost.Given as goal

-- those of the causes so far that none before them covers
abbrev pub invariant-loop-cause : goal.invariant-loop-cause
invariant-loop-cause l = AreNoted l.kept × (l.kept.causes.items ≡ foremost l.yielded)
