use Rattle.std.proofs.Common.{◌≡◌, map}
use Rattle.envtools.specs.Environment.{value_of}
use Rattle.device_list.specs.CallLines.{filled_word}
use Rattle.device_list.specs.DevicesShown.{word_shown}
use Rattle.device_list.proofs.FilledLemmas.{done}
use Rattle.device_list.proofs.filled.fill_words.Given as goal

-- the words so far are filled
abbrev pub invariant-loop-word : goal.invariant-loop-word
invariant-loop-word l = done (filled_word (value_of l.env)) (map word_shown l.words) l.word-index ≡ map (filled_word (value_of l.env)) (map word_shown l.fn.words)
