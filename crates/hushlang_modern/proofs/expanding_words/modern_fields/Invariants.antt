use Rattle.std.proofs.Common.{◌≡◌, ◌++◌, map, drop}
use Rattle.std.specs.List.{flat_map}
use Rattle.hushlang.specs.TreesShown as view
use Rattle.hushlang_modern.specs.ModernFields.{modern_fields_of_word}
use Rattle.hushlang_modern.proofs.expanding_words.modern_fields.Given as goal

abbrev pub invariant-loop-word : goal.invariant-loop-word
invariant-loop-word g l =
    let parameters = g.V.Vars.parameters l.vars in
    map (λ field. field.items) l.fields.items ++ flat_map (modern_fields_of_word parameters) (map view.word (drop l.word-index l.words))
    ≡ flat_map (modern_fields_of_word parameters) (map view.word l.words)
