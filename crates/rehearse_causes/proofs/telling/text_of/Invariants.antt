use Rattle.std.proofs.Common.{◌≡◌, take}
use Rattle.rehearse_causes.specs.CauseLines.{causes_text}
use Rattle.rehearse_causes.proofs.telling.text_of.Given as goal

-- the lines of the causes so far
abbrev pub invariant-loop-cause : goal.invariant-loop-cause
invariant-loop-cause l = l.text.items ≡ causes_text (take l.cause-index l.causes)
