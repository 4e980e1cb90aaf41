use Rattle.std.proofs.Common.{◌≡◌, ◌++◌, map, length}
use Rattle.std.specs.Vec.Iter.{into_iter_items, into_iter_len}
use Rattle.hushlang.specs.TreesShown as view
use Rattle.hushlang_old.specs.OldTokensShown as shown
use Rattle.hushlang_old.specs.OldTrees as says
use Rattle.hushlang_old.proofs.found_words.values_of.Given as goal

abbrev pub invariant-loop-word : goal.invariant-loop-word
invariant-loop-word l = record {
  made : view.values_in l.values ++ map (λ word. says.value_of (shown.word word)) (into_iter_items l.word-iterator)
      ≡ map (λ word. says.value_of (shown.word word)) l.fn.found.items;
  len : into_iter_len l.word-iterator ≡ length (into_iter_items l.word-iterator);
}
