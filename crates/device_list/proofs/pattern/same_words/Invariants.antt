use Rattle.std.proofs.Common.{◌≡◌, drop, map}
use Rattle.device_list.specs.CallLines.{same_words}
use Rattle.device_list.specs.DevicesShown.{word_shown}
use Rattle.device_list.proofs.pattern.same_words.Given as goal

-- the words that are left decide
abbrev pub invariant-loop-word : goal.invariant-loop-word
invariant-loop-word l = same_words (map word_shown l.words) (map word_shown l.others)
    ≡ same_words (map word_shown (drop l.word-index l.words)) (map word_shown l.left)
