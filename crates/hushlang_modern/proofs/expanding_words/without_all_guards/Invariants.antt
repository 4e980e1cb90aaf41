use Rattle.std.proofs.Common.{◌≡◌, ◌++◌, map, length}
use Rattle.std.specs.Vec.Iter.{into_iter_items, into_iter_len}
use Rattle.hushlang_modern.specs.ModernWords.{without_guards}
use Rattle.hushlang_modern.proofs.expanding_words.without_all_guards.Given as goal

abbrev pub invariant-loop-field : goal.invariant-loop-field
invariant-loop-field l = record {
  made : map (λ field. field.items) l.made.items ++ map (λ field. without_guards field.items) (into_iter_items l.field-iterator)
      ≡ map (λ field. without_guards field.items) l.fn.fields.items;
  len : into_iter_len l.field-iterator ≡ length (into_iter_items l.field-iterator);
}
