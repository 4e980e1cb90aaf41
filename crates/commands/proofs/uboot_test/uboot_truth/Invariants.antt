use Rattle.std.proofs.Common.{◌≡◌, false, length}
use Rattle.commands.specs.UBootTest.{Alone, holds, terms}
use Rattle.commands.specs.UBootTestShown.{found_holds}
use Rattle.commands.specs.TextsShown.{texts}
use Rattle.commands.proofs.uboot_test.uboot_truth.Given as goal

-- what is left, after what was found, holds if the whole does
abbrev pub invariant-loop-rest : goal.invariant-loop-rest
invariant-loop-rest l =
    found_holds l.found (terms (texts l.rest)) ≡ holds false Alone false l.fn.answers (terms (texts l.words))

abbrev pub decreases-loop-rest : goal.decreases-loop-rest
decreases-loop-rest l = length l.rest
