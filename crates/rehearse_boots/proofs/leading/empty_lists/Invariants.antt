use Rattle.std.proofs.Common.{◌≡◌, [], replicate}
use Rattle.rehearse_boots.specs.Leading.{lists_of}
use Rattle.rehearse_boots.proofs.leading.empty_lists.Given as goal

-- the lists so far
abbrev pub invariant-loop-place : goal.invariant-loop-place
invariant-loop-place l = lists_of l.lists.items ≡ replicate l._place []
