-- What the code's word on the way says.
use Rattle.std.specs.Prelude.{ℕ, List, [], ◌∷◌, map, if◌then◌else◌}
use Rattle.std.specs.List.{list_any}
use Rattle.hushlang.specs.Tree.{Word}
use Rattle.hushlang_modern.specs.ModernFields as says
use Rattle.hushlang_modern.specs.ModernWords.{bytes_of, is_lasting}
use Rattle.hushlang_modern.specs.declared.expanding_words.Expanding.{Expanding}

abbrev pub expanding : Expanding → says.Expanding
expanding e = record {
  whole = map (λ field. field.items) e.whole.items;
  field = e.field.items;
  quoted = e.quoted;
  kept = e.kept;
  cut = e.cut;
  behind = e.behind;
}

-- the field of a word that nothing can change
abbrev pub field_of_constant : Word → List (List ℕ)
field_of_constant word = if list_any is_lasting word then bytes_of word ∷ [] else []
