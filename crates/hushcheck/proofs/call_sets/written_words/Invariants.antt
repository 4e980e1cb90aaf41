use Rattle.std.proofs.Common.{◌≡◌, map, take}
use Rattle.hushlang.specs.TreesShown as view
use Rattle.hushcheck.specs.CallSetsShown.{all_written}
use Rattle.hushcheck.specs.Names.{written_out}
use Rattle.hushcheck.proofs.call_sets.written_words.Given as goal

-- the words so far
abbrev pub invariant-loop-word : goal.invariant-loop-word
invariant-loop-word l = all_written l.all.items ≡ map (λ w. written_out (view.word w)) (take l.word-index l.words)
