-- The words of a command: one without a variable is not read again.
use Rattle.std.proofs.Common.{◌≡◌, ◌∙◌, refl, ap, true, false, List, [], ◌∷◌, ◌++◌, if◌then◌else◌, unwrap_or}
use Rattle.std.specs.List.{flat_map}
use Rattle.std.proofs.lemmas.Bool.{and_parts}
use Rattle.hushlang.specs.Tree as tree
use Rattle.hushlang.specs.Tree.{Word, Piece}
use Rattle.hushlang.specs.Expansion.{Parameters, atoms_of_piece, atoms, all_bytes, joined, fields}
use Rattle.hushlang.specs.KnownFields.{is_constant, is_constant_word, are_constant}
use Rattle.hushlang_old.specs.OldFields.{command_text, reread, old_fields}

same_piece : (p q : Parameters) (piece : Piece) → is_constant piece ≡ true → atoms_of_piece p piece ≡ atoms_of_piece q piece
same_piece p q (tree.Bytes bytes) e = refl
same_piece p q tree.Mark e = refl
same_piece p q (tree.Var name split) e = absurd (cc)
same_piece p q tree.Status e = absurd (cc)

same_pieces : (p q : Parameters) (word : Word) → is_constant_word word ≡ true → flat_map (atoms_of_piece p) word ≡ flat_map (atoms_of_piece q) word
same_pieces p q [] e = refl
same_pieces p q (piece ∷ word) e =
    let parts = and_parts (is_constant piece) (is_constant_word word) e in
    ap (λ a. a ++ flat_map (atoms_of_piece p) word) (same_piece p q piece parts.0) ∙ ap (λ a. atoms_of_piece q piece ++ a) (same_pieces p q word parts.1)

-- the bytes of a word that nothing can change are the same by any variables
pub constant_joined : (p q : Parameters) (word : Word) → is_constant_word word ≡ true → joined p word ≡ joined q word
unfolding atoms joined
constant_joined p q word e = ap all_bytes (same_pieces p q word e)

pub constant_words : (p : Parameters) (words : List Word) → are_constant words ≡ true → old_fields p words ≡ fields p words
unfolding old_fields
constant_words p words e =
    ap (λ constant. if constant then fields p words else unwrap_or (reread (command_text p words)) []) e

pub reread_words : (p : Parameters) (words : List Word) → are_constant words ≡ false → old_fields p words ≡ unwrap_or (reread (command_text p words)) []
unfolding old_fields
reread_words p words e =
    ap (λ constant. if constant then fields p words else unwrap_or (reread (command_text p words)) []) e
