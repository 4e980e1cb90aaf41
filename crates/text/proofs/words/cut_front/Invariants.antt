use Rattle.std.proofs.Common.{◌≡◌, ℕ, Bool, length}
use Rattle.text.specs.Words.{cut_front, Tests}
use Rattle.text.proofs.words.cut_front.Given as goal

-- the bytes before the rest pass
abbrev pub invariant-loop-rest : goal.invariant-loop-rest
invariant-loop-rest g l = (p : ℕ → Bool) → Tests (goal.F-post g l.test) p → cut_front p l.rest ≡ cut_front p l.text

abbrev pub decreases-loop-rest : goal.decreases-loop-rest
decreases-loop-rest g l = length l.rest
