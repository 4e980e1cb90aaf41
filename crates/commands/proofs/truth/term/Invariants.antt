use Rattle.std.proofs.Common.{◌≡◌, length}
use Rattle.commands.specs.Verdict.{term}
use Rattle.commands.specs.TextsShown.{texts}
use Rattle.commands.proofs.VerdictLemmas.{turned}
use Rattle.commands.proofs.truth.term.Given as goal

-- the words so far are `!`
abbrev pub invariant-loop-first : goal.invariant-loop-first
invariant-loop-first l = term (texts l.words) ≡ turned l.is_opposite (term (texts l.rest))

abbrev pub decreases-loop-first : goal.decreases-loop-first
decreases-loop-first l = length l.rest
