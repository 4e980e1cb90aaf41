use Rattle.std.proofs.Common.{◌≡◌, ◌++◌, length}
use Rattle.rehearse_terms.specs.State.{Variables}
use Rattle.rehearse_reports.proofs.looping.same_variables.Given as goal

-- the variables so far are the same, and the others are left
abbrev pub invariant-loop-name : goal.invariant-loop-name
invariant-loop-name l = (done : Variables) × (l.fn.a ≡ done ++ l.some) × (l.fn.b ≡ done ++ l.others)

abbrev pub decreases-loop-name : goal.decreases-loop-name
decreases-loop-name l = length l.some
