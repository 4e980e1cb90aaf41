use Rattle.std.proofs.Common.{◌≡◌, take}
use Rattle.text.specs.TextsShown.{bytes_of_words}
use Rattle.text.proofs.word_lists.copied_words.Given as goal

-- the words so far are copied
abbrev pub invariant-loop-word : goal.invariant-loop-word
invariant-loop-word l = bytes_of_words l.copies.items ≡ bytes_of_words (take l.word-index l.words)
