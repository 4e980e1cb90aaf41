use Rattle.std.proofs.Common.{◌≡◌, take}
use Rattle.std.specs.Prelude.{option_to_list}
use Rattle.std.specs.List.{flat_map}
use Rattle.hushlang.specs.TreesShown as view
use Rattle.hushcheck.specs.Names.{written_out}
use Rattle.hushcheck.specs.Order.{with_names}
use Rattle.hushcheck.proofs.walk.add_words.Given as goal

-- the names of the words so far were added
abbrev pub invariant-loop-word : goal.invariant-loop-word
invariant-loop-word l = l.names ≡ with_names l.fn.names (flat_map (λ w. option_to_list (written_out (view.word w))) (take l.word-index l.words))
