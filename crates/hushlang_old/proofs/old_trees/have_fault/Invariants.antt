use Rattle.std.proofs.Common.{◌≡◌, map}
use Rattle.std.specs.Vec.Iter.{into_iter_items}
use Rattle.hushlang_old.specs.OldTokensShown as tokens
use Rattle.hushlang_old.specs.OldTrees as says
use Rattle.hushlang_old.specs.OldTreesShown as shown
use Rattle.hushlang_old.proofs.old_trees.have_fault.Given as goal

abbrev pub invariant-loop-token : goal.invariant-loop-token
invariant-loop-token l =
    says.have_fault (map tokens.token (into_iter_items l.token-iterator)) (shown.building l.building)
    ≡ says.have_fault (tokens.tokens l.fn.found) (shown.building l.initial.building)
