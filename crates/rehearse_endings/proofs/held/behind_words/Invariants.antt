use Rattle.std.proofs.Common.{◌≡◌, ◌+◌, take}
use Rattle.rehearse_endings.specs.Held.{size_of_words}
use Rattle.rehearse_endings.proofs.held.behind_words.Given as goal

-- the words so far have taken their bytes
abbrev pub invariant-loop-word : goal.invariant-loop-word
invariant-loop-word l = l.left + size_of_words (take l.word-index l.words) ≡ l.fn.room
