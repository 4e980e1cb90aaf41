use Rattle.std.proofs.Common.{◌≡◌, ◌++◌, map, length}
use Rattle.std.specs.Vec.Iter.{into_iter_items, into_iter_len}
use Rattle.hushlang.specs.TreesShown as view
use Rattle.hushlang_modern.specs.ModernTokensShown as shown
use Rattle.hushlang_modern.specs.ModernWords as says
use Rattle.hushlang_modern.proofs.found_words.words_of.Given as goal

abbrev pub invariant-loop-word : goal.invariant-loop-word
invariant-loop-word l = record {
  made : view.words_in l.words ++ map (λ word. says.word_of (shown.word word)) (into_iter_items l.word-iterator)
      ≡ map (λ word. says.word_of (shown.word word)) l.fn.found.items;
  len : into_iter_len l.word-iterator ≡ length (into_iter_items l.word-iterator);
}
