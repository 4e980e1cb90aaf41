use Rattle.std.proofs.Common.{length}
use Rattle.commands.specs.Verdict.{verdict}
use Rattle.commands.specs.TextsShown.{texts}
use Rattle.commands.proofs.VerdictLemmas.{ChainLeft}
use Rattle.commands.proofs.truth.verdict.Given as goal

-- the words left are a chain after the truth so far
abbrev pub invariant-loop-operator : goal.invariant-loop-operator
invariant-loop-operator l = ChainLeft (verdict (texts l.words)) l.truth (texts l.rest)

abbrev pub decreases-loop-operator : goal.decreases-loop-operator
decreases-loop-operator l = length l.rest
