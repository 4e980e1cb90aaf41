use Rattle.std.proofs.Common.{◌≡◌, ◌++◌, drop, map}
use Rattle.std.specs.Option.{option_map}
use Rattle.device_list.specs.CallLines.{pattern_words}
use Rattle.device_list.specs.DevicesShown.{word_shown}
use Rattle.device_list.proofs.pattern.pattern_words.Given as goal

-- the words so far come before those of the words left
abbrev pub invariant-loop-word : goal.invariant-loop-word
invariant-loop-word l = pattern_words (map (λ w. w.now) l.words)
    ≡ option_map (λ more. map word_shown l.list.items ++ more) (pattern_words (map (λ w. w.now) (drop l.word-index l.words)))
