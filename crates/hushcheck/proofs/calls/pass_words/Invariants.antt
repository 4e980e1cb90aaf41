use Rattle.std.proofs.Common.{◌≡◌, take}
use Rattle.std.specs.List.{fold}
use Rattle.hushlang.specs.TreesShown as view
use Rattle.hushcheck.specs.Calls.{after_word}
use Rattle.hushcheck.proofs.calls.pass_words.Given as goal

-- the words so far were passed
abbrev pub invariant-loop-word : goal.invariant-loop-word
invariant-loop-word l = l.reading ≡ fold (λ q w. after_word q (view.word w)) l.fn.reading (take l.word-index l.words)
