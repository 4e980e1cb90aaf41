use Rattle.std.proofs.Common.{◌≡◌, ◌≤◌, ℕ, Bool, length, take}
use Rattle.text.specs.Words.{cut_behind, Tests}
use Rattle.text.proofs.words.cut_behind.Given as goal

-- the bytes after the first `len` pass
abbrev pub invariant-loop-len : goal.invariant-loop-len
invariant-loop-len g l =
    ((p : ℕ → Bool) → Tests (goal.F-post g l.test) p → cut_behind p (take l.len l.text) ≡ cut_behind p l.text) × (l.len ≤ length l.text)

abbrev pub decreases-loop-len : goal.decreases-loop-len
decreases-loop-len g l = l.len
