use Rattle.std.proofs.Common.{◌≡◌, map, take}
use Rattle.text.specs.Words.{joined_words}
use Rattle.text.proofs.word_lists.joined_words.Given as goal

-- the words so far are joined
abbrev pub invariant-loop-at : goal.invariant-loop-at
invariant-loop-at g l = l.joined.items ≡ joined_words (map g.W.AsSlice.items (take l.at l.words))
