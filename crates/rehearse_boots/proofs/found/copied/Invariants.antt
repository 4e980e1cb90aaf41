use Rattle.std.proofs.Common.{◌≡◌, take}
use Rattle.text.specs.TextsShown.{bytes_of_words}
use Rattle.rehearse_boots.proofs.found.copied.Given as goal

-- the values so far
abbrev pub invariant-loop-value : goal.invariant-loop-value
invariant-loop-value l = bytes_of_words l.copy.items ≡ bytes_of_words (take l.value-index l.kept)
