use Rattle.std.proofs.Common.{◌≡◌, ◌++◌, flat_map, take}
use Rattle.text.specs.TextsShown.{spaced}
use Rattle.bootstore_state.proofs.device_line.add_spaced.Given as goal

-- the words so far
abbrev pub invariant-loop-word : goal.invariant-loop-word
invariant-loop-word l = l.text.items ≡ l.initial.text.items ++ flat_map spaced (take l.word-index l.words)
