use Rattle.std.proofs.Common.{◌∙◌}
use Rattle.hushlang.specs.TreesShown as view
use Rattle.hushcheck.specs.Calls.{after_operand}
use Rattle.hushcheck.proofs.CallsLemmas.{fold_all, fold_item, fold_map}
use Rattle.hushcheck.proofs.calls.read_operands.Goals as goal

pub loop-word-preserved : goal.loop-word-preserved
loop-word-preserved c =
    fold_item (λ q w. after_operand q (view.word w)) c.args.reading.now c.loop-word.reading c.read_operand.new.reading c.args.words.now c.loop-word.word-index c.word-item.result
    c.loop-word-test.true c.word-item.is c.loop-word.invariant c.in_ok-read_operand.ensures

pub returns : goal.returns
returns c =
    fold_all (λ q w. after_operand q (view.word w)) c.args.reading.now c.loop-word.reading c.args.words.now c.loop-word.word-index c.loop-word-test.false c.loop-word.invariant
    ∙ fold_map after_operand view.word c.args.reading.now c.args.words.now
