use Rattle.std.proofs.Common.{◌≡◌, ◌+◌, length}
use Rattle.envimage.specs.Data.{data_fault, texts_fault, texts_of}
use Rattle.envimage.proofs.content.check_data.Given as goal

-- what is wrong with the rest is what is wrong with the whole
abbrev pub invariant-loop-text : goal.invariant-loop-text
invariant-loop-text l =
    (texts_fault l.at (texts_of l.rest) ≡ data_fault l.body) × (l.at + length l.rest ≡ length l.body)

abbrev pub decreases-loop-text : goal.decreases-loop-text
decreases-loop-text l = length l.rest
