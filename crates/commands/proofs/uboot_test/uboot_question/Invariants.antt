use Rattle.std.proofs.Common.{◌≡◌, ◌++◌, length}
use Rattle.commands.specs.UBootTest.{files_in, terms}
use Rattle.commands.specs.TextsShown.{texts}
use Rattle.commands.proofs.UBootTestLemmas.{files_asked}
use Rattle.commands.proofs.uboot_test.uboot_question.Given as goal

-- the file that was asked for, and those of what is left, are those of the whole
abbrev pub invariant-loop-rest : goal.invariant-loop-rest
invariant-loop-rest l = files_asked l.asked ++ files_in (terms (texts l.rest)) ≡ files_in (terms (texts l.words))

abbrev pub decreases-loop-rest : goal.decreases-loop-rest
decreases-loop-rest l = length l.rest
