use Rattle.std.proofs.Common.{◌∙◌}
use Rattle.hushlang.specs.TreesShown as view
use Rattle.hushcheck.specs.CallSets.{part_of}
use Rattle.hushcheck.proofs.SetsLemmas.{map_all, map_twice}
use Rattle.hushcheck.proofs.call_sets.parts_of.Goals as goal

pub returns : goal.returns
returns c =
    map_all (λ part. part.items) (λ w. part_of (view.word w)) c.loop-word.parts.items c.args.words.now c.loop-word.word-index c.loop-word-test.false c.loop-word.invariant
    ∙ map_twice part_of view.word c.args.words.now
