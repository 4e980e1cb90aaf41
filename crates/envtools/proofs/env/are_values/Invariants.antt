use Rattle.std.proofs.Common.{◌≡◌, true, map, take}
use Rattle.envtools.specs.Environment.{are_values}
use Rattle.envtools.proofs.env.are_values.Given as goal

abbrev pub invariant-loop-word : goal.invariant-loop-word
invariant-loop-word l = are_values (map (λ w. w.now) (take l.word-index l.words)) ≡ true
