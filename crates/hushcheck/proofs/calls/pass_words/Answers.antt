use Rattle.std.proofs.Common.{◌∙◌}
use Rattle.hushlang.specs.TreesShown as view
use Rattle.hushcheck.specs.Calls.{after_word}
use Rattle.hushcheck.proofs.CallsLemmas.{fold_all, fold_item, fold_map}
use Rattle.hushcheck.proofs.calls.pass_words.Goals as goal

pub loop-word-preserved : goal.loop-word-preserved
loop-word-preserved c =
    fold_item (λ q w. after_word q (view.word w)) c.args.reading.now c.loop-word.reading c.pass.new.self c.args.words.now c.loop-word.word-index c.word-item.result
    c.loop-word-test.true c.word-item.is c.loop-word.invariant c.in_ok-pass.ensures

pub returns : goal.returns
returns c =
    fold_all (λ q w. after_word q (view.word w)) c.args.reading.now c.loop-word.reading c.args.words.now c.loop-word.word-index c.loop-word-test.false c.loop-word.invariant
    ∙ fold_map after_word view.word c.args.reading.now c.args.words.now
