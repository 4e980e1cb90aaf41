use Rattle.std.proofs.Common.{◌≡◌, ◌++◌, true, map, drop}
use Rattle.std.specs.List.{flat_map}
use Rattle.hushlang.specs.Expansion.{fields_of_word}
use Rattle.hushlang.specs.KnownFields.{are_constant}
use Rattle.hushlang.specs.TreesShown as view
use Rattle.hushlang_old.proofs.constant.constant_fields.Given as goal

abbrev pub invariant-loop-word : goal.invariant-loop-word
invariant-loop-word g l =
    let parameters = g.V.Vars.parameters l.vars in
    record {
      same : map (λ field. field.items) l.fields.items ++ flat_map (fields_of_word parameters) (map view.word (drop l.word-index l.words))
          ≡ flat_map (fields_of_word parameters) (map view.word l.words);
      constant : are_constant (map view.word (drop l.word-index l.words)) ≡ true;
    }
