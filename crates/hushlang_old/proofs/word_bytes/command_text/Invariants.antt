use Rattle.std.proofs.Common.{◌≡◌, ◌++◌, map, drop}
use Rattle.hushlang.specs.TreesShown as view
use Rattle.hushlang_old.specs.OldFields.{words_text}
use Rattle.hushlang_old.proofs.word_bytes.command_text.Given as goal

abbrev pub invariant-loop-word : goal.invariant-loop-word
invariant-loop-word g l =
    let parameters = g.V.Vars.parameters l.vars in
    l.text.items ++ words_text parameters (map view.word (drop l.word-index l.words)) ≡ words_text parameters (map view.word l.words)
