use Rattle.std.proofs.Common.{ap, ◌∙◌}
use Rattle.std.specs.Prelude.{option_to_list}
use Rattle.hushlang.specs.TreesShown as view
use Rattle.hushcheck.specs.Names.{written_out}
use Rattle.hushcheck.specs.Order.{with_names}
use Rattle.hushcheck.proofs.OrderLemmas.{names_all, names_item}
use Rattle.hushcheck.proofs.WalkLemmas.{words_map}
use Rattle.hushcheck.proofs.walk.add_words.Goals as goal

pub loop-word-preserved : goal.loop-word-preserved
loop-word-preserved c =
    names_item (λ w. option_to_list (written_out (view.word w))) c.args.names.now c.args.words.now c.loop-word.names c.add_word.new.names c.loop-word.word-index c.word-item.result
    c.loop-word-test.true c.word-item.is c.loop-word.invariant c.in_ok-add_word.ensures

pub returns : goal.returns
returns c =
    names_all (λ w. option_to_list (written_out (view.word w))) c.args.names.now c.args.words.now c.loop-word.names c.loop-word.word-index c.loop-word-test.false c.loop-word.invariant
    ∙ ap (with_names c.args.names.now) (words_map c.args.words.now)
