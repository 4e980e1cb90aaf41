-- The one field of a word that nothing can change, and what the loops over fields keep.
use Rattle.std.proofs.Common.{◌≡◌, ◌∙◌, refl, ap, true, false, ◌||◌, List, [], ◌∷◌, ◌++◌, if◌then◌else◌}
use Rattle.std.specs.List.{list_any, flat_map}
use Rattle.std.proofs.lemmas.Bool.{and_parts}
use Rattle.hushlang.specs.Tree as tree
use Rattle.hushlang.specs.Tree.{Word, Piece}
use Rattle.hushlang.specs.Expansion.{Parameters, atoms_of_piece, atoms, all_bytes, joined, fields_of_word, fields}
use Rattle.hushlang.specs.KnownFields.{is_constant, is_constant_word, are_constant}
use Rattle.hushlang.proofs.ExpandLemmas.{all_bytes_kept, all_bytes-append}
use Rattle.hushlang_uboot.specs.Pieces.{is_something}
use Rattle.hushlang_uboot.proofs.WordLemmas.{one_field}
use Rattle.hushlang_modern.specs.ModernFields.{expanded, modern_fields_of_word, modern_fields}
use Rattle.hushlang_modern.specs.ModernFieldsShown.{field_of_constant}
use Rattle.hushlang_modern.specs.ModernWords.{bytes_of_piece, is_lasting}

bytes_of_constant : (p : Parameters) (piece : Piece) → is_constant piece ≡ true → all_bytes (atoms_of_piece p piece) ≡ bytes_of_piece piece
bytes_of_constant p (tree.Bytes bytes) e = all_bytes_kept bytes
bytes_of_constant p tree.Mark e = refl
bytes_of_constant p (tree.Var name split) e = absurd (cc)
bytes_of_constant p tree.Status e = absurd (cc)

joined_constant : (p : Parameters) (word : Word) → is_constant_word word ≡ true → all_bytes (flat_map (atoms_of_piece p) word) ≡ flat_map bytes_of_piece word
joined_constant p [] e = refl
joined_constant p (piece ∷ word) e =
    let parts = and_parts (is_constant piece) (is_constant_word word) e in
    all_bytes-append (atoms_of_piece p piece) (flat_map (atoms_of_piece p) word)
    ∙ ap (λ bytes. bytes ++ all_bytes (flat_map (atoms_of_piece p) word)) (bytes_of_constant p piece parts.0)
    ∙ ap (λ bytes. bytes_of_piece piece ++ bytes) (joined_constant p word parts.1)

lasting_piece : (piece : Piece) → is_constant piece ≡ true → is_something piece ≡ is_lasting piece
lasting_piece (tree.Bytes bytes) e = refl
lasting_piece tree.Mark e = refl
lasting_piece (tree.Var name split) e = absurd (cc)
lasting_piece tree.Status e = absurd (cc)

lasting_word : (word : Word) → is_constant_word word ≡ true → list_any is_something word ≡ list_any is_lasting word
lasting_word [] e = refl
lasting_word (piece ∷ word) e =
    let parts = and_parts (is_constant piece) (is_constant_word word) e in
    ap (λ first. first || list_any is_something word) (lasting_piece piece parts.0)
    ∙ ap (λ more. is_lasting piece || more) (lasting_word word parts.1)

pub constant_field : (p : Parameters) (word : Word) → is_constant_word word ≡ true → fields_of_word p word ≡ field_of_constant word
unfolding joined atoms
constant_field p word e =
    one_field p word e
    ∙ ap (λ some. if some then joined p word ∷ [] else []) (lasting_word word e)
    ∙ ap (λ bytes. if list_any is_lasting word then bytes ∷ [] else []) (joined_constant p word e)

pub constant_word : (p : Parameters) (word : Word) → is_constant_word word ≡ true → modern_fields_of_word p word ≡ field_of_constant word
constant_word p word e = ap (λ constant. if constant then fields_of_word p word else expanded p word) e ∙ constant_field p word e

pub variable_word : (p : Parameters) (word : Word) → is_constant_word word ≡ false → modern_fields_of_word p word ≡ expanded p word
variable_word p word e = ap (λ constant. if constant then fields_of_word p word else expanded p word) e

-- words that nothing can change have their `fields`
pub constant_words : (p : Parameters) (words : List Word) → are_constant words ≡ true → modern_fields p words ≡ fields p words
unfolding modern_fields fields
constant_words p [] e = refl
constant_words p (word ∷ words) e =
    let parts = and_parts (is_constant_word word) (are_constant words) e in
    ap (λ constant. (if constant then fields_of_word p word else expanded p word) ++ flat_map (modern_fields_of_word p) words) parts.0
    ∙ ap (λ more. fields_of_word p word ++ more) (constant_words p words parts.1)
