use Rattle.std.proofs.Common.{◌≡◌, map}
use Rattle.std.specs.Vec.Iter.{into_iter_items}
use Rattle.hushlang_modern.specs.ModernTokensShown as tokens
use Rattle.hushlang_modern.specs.ModernTrees as says
use Rattle.hushlang_modern.specs.ModernTreesShown as shown
use Rattle.hushlang_modern.proofs.modern_trees.read_all.Given as goal

abbrev pub invariant-loop-token : goal.invariant-loop-token
invariant-loop-token l =
    says.read_tokens (map tokens.token (into_iter_items l.token-iterator)) (shown.building l.building)
    ≡ says.read_tokens (map tokens.token l.fn.found.items) (shown.building l.initial.building)
