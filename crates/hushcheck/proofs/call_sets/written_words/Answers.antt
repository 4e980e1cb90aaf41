use Rattle.std.proofs.Common.{◌∙◌}
use Rattle.hushlang.specs.TreesShown as view
use Rattle.hushcheck.specs.CallSetsShown.{written}
use Rattle.hushcheck.specs.Names.{written_out}
use Rattle.hushcheck.proofs.SetsLemmas.{map_all, map_twice}
use Rattle.hushcheck.proofs.call_sets.written_words.Goals as goal

pub returns : goal.returns
returns c =
    map_all written (λ w. written_out (view.word w)) c.loop-word.all.items c.args.words.now c.loop-word.word-index c.loop-word-test.false c.loop-word.invariant
    ∙ map_twice written_out view.word c.args.words.now
