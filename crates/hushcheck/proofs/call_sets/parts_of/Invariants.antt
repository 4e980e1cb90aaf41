use Rattle.std.proofs.Common.{◌≡◌, map, take}
use Rattle.hushlang.specs.TreesShown as view
use Rattle.hushcheck.specs.CallSets.{part_of}
use Rattle.hushcheck.specs.CallSetsShown.{names_shown}
use Rattle.hushcheck.proofs.call_sets.parts_of.Given as goal

-- the words so far
abbrev pub invariant-loop-word : goal.invariant-loop-word
invariant-loop-word l = names_shown l.parts.items ≡ map (λ w. part_of (view.word w)) (take l.word-index l.words)
