use Rattle.std.proofs.Common.{◌≡◌, length, reverse}
use Rattle.rehearse_machine.specs.EndedTexts.{below_blocks}
use Rattle.rehearse_machine.proofs.ended_texts.below_blocks.Given as goal

-- the frames so far are blocks at their end
abbrev pub invariant-loop-frame : goal.invariant-loop-frame
invariant-loop-frame l = below_blocks (reverse l.left) ≡ below_blocks (reverse l.frames)

abbrev pub decreases-loop-frame : goal.decreases-loop-frame
decreases-loop-frame l = length l.left
