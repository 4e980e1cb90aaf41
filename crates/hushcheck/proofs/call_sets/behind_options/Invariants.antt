use Rattle.std.proofs.Common.{◌≡◌, length}
use Rattle.hushcheck.specs.CallSets.{behind_options}
use Rattle.hushcheck.specs.CallSetsShown.{all_written}
use Rattle.hushcheck.proofs.call_sets.behind_options.Given as goal

-- the words so far are options
abbrev pub invariant-loop-word : goal.invariant-loop-word
invariant-loop-word l = behind_options (all_written l.words) ≡ behind_options (all_written l.left)

abbrev pub decreases-loop-word : goal.decreases-loop-word
decreases-loop-word l = length l.left
