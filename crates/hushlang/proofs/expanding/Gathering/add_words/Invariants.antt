use Rattle.std.proofs.Common.{◌≡◌, map, drop}
use Rattle.hushlang.specs.Splitting.{fields_so_far, nothing_gathered, with_words, IsCounted, AreShort}
use Rattle.hushlang.specs.TreesShown as view
use Rattle.hushlang.proofs.expanding.Gathering.add_words.Given as goal

abbrev pub invariant-loop-word : goal.invariant-loop-word
invariant-loop-word g l =
    let parameters = g.V.Vars.parameters l.vars in
    record {
      same : with_words parameters (fields_so_far l.self) (map view.word (drop l.word-index l.words)) ≡ with_words parameters nothing_gathered (map view.word l.words);
      counted : IsCounted l.self;
      short : AreShort parameters l.values.entries;
    }
