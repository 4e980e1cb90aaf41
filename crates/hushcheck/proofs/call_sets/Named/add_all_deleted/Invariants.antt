use Rattle.std.proofs.Common.{◌≡◌, take}
use Rattle.std.specs.List.{fold}
use Rattle.hushcheck.specs.CallSets.{with_deleted}
use Rattle.hushcheck.specs.CallSetsShown.{written}
use Rattle.hushcheck.proofs.call_sets.Named.add_all_deleted.Given as goal

-- what the words so far name
abbrev pub invariant-loop-word : goal.invariant-loop-word
invariant-loop-word l = l.self ≡ fold (λ n w. with_deleted n (written w)) l.fn.self (take l.word-index l.words)
