use Rattle.std.proofs.Common.{◌≡◌, ◌++◌, map, drop}
use Rattle.std.specs.List.{flat_map}
use Rattle.hushlang.specs.TreesShown as view
use Rattle.hushlang_old.specs.OldFields.{turns_of_word}
use Rattle.hushlang_old.proofs.old_words.old_turns.Given as goal

abbrev pub invariant-loop-word : goal.invariant-loop-word
invariant-loop-word g l =
    let parameters = g.V.Vars.parameters l.vars in
    map (λ turn. turn.items) l.turns.items ++ flat_map (turns_of_word parameters) (map view.word (drop l.word-index l.words))
    ≡ flat_map (turns_of_word parameters) (map view.word l.words)
