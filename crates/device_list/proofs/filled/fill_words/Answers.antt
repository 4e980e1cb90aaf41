use Rattle.std.proofs.Common.{◌<◌, length, ◌∙◌, arith}
use Rattle.envtools.specs.Environment.{value_of}
use Rattle.device_list.specs.CallLines.{filled_word}
use Rattle.device_list.specs.DevicesShown.{word_shown}
use Rattle.device_list.proofs.FilledLemmas.{one-done}
use Rattle.device_list.proofs.filled.fill_words.Goals as goal

pub loop-word-preserved : goal.loop-word-preserved
loop-word-preserved c =
    let within : c.loop-word.word-index < length c.loop-word.words = omega arith in
    one-done word_shown (filled_word (value_of c.args.env.now)) c.loop-word.words c.loop-word.word-index _ c.fill_word.new.word within c.in_ok-fill_word.ensures ∙ c.loop-word.invariant
