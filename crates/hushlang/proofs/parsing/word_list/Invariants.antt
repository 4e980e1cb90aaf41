use Rattle.std.proofs.Common.{◌≡◌, ◌++◌, length, map, Ok}
use Rattle.hushlang.specs.Grammar.{word_of, words, is_word}
use Rattle.hushlang.specs.Parsing.{all_words, behind}
use Rattle.hushlang.specs.TreesShown as view
use Rattle.hushlang.proofs.parsing.word_list.Given as goal

abbrev pub invariant-words : goal.invariant-words
invariant-words l = all_words l.fn.tokens ≡ Ok (map view.word l.all.items ++ map word_of (words l.tokens.tokens), behind is_word l.tokens)

abbrev pub decreases-words : goal.decreases-words
decreases-words l = length l.tokens.tokens
