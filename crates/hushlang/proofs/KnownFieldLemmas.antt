-- Words that nothing can change have the same fields always.
use Rattle.std.proofs.Common.{◌≡◌, ◌∙◌, refl, sym, ap, ℕ, Bool, true, false, ◌&&◌, append-nil, List, [], ◌∷◌, ◌++◌, map, nat_le, Option, Some, None, option_map, option_and_then, IfSome, if◌then◌else◌, Bor, Vec, Global}
use Rattle.std.specs.List.{flat_map, filter, list_all}
use Rattle.std.proofs.lemmas.Bool.{and_parts}
use Rattle.std.proofs.lemmas.List.Folds.{list_all-map}
use Rattle.std.specs.Option.{option_copied, option_or}
use Rattle.std.specs.declared.rc.Rc.{Rc}
use Rattle.hushlang.specs.Tree as tree
use Rattle.hushlang.specs.Tree.{Word, Piece}
use Rattle.hushlang.specs.TreesShown as view
use Rattle.hushlang.specs.declared.tree.Word.{Word as Code}
use Rattle.hushlang.specs.declared.tree.Piece.{Piece as CodePiece}
use Rattle.hushlang.specs.Expansion.{Parameters, atoms_of_piece, atoms, cut, is_field, kept_bytes, fields_of_word, fields, size, most_bytes}
use Rattle.hushlang.specs.KnownFields.{is_constant, is_constant_word, are_constant, nothing_set, known_fields, known_of_first, first_field, known_name}
use Rattle.builtins.specs.Builtins.{Builtin, builtin_of, builtin_named}

pub all_pieces : (pieces : List CodePiece) → list_all is_constant (map view.piece pieces) ≡ list_all (λ p. is_constant (view.piece p)) pieces
all_pieces pieces = list_all-map is_constant view.piece pieces

pub all_words : (words : List Code) → list_all is_constant_word (map view.word words) ≡ list_all (λ w. is_constant_word (view.word w)) words
all_words words = list_all-map is_constant_word view.word words

same_atoms : (p : Parameters) (piece : Piece) → is_constant piece ≡ true → atoms_of_piece p piece ≡ atoms_of_piece nothing_set piece
same_atoms p (tree.Bytes bytes) e = refl
same_atoms p tree.Mark e = refl
same_atoms p (tree.Var name split) e = absurd (cc)
same_atoms p tree.Status e = absurd (cc)

same_word : (p : Parameters) (word : Word) → is_constant_word word ≡ true → flat_map (atoms_of_piece p) word ≡ flat_map (atoms_of_piece nothing_set) word
same_word p [] e = refl
same_word p (piece ∷ word) e =
    let parts = and_parts (is_constant piece) (is_constant_word word) e in
    ap (λ a. a ++ flat_map (atoms_of_piece p) word) (same_atoms p piece parts.0) ∙ ap (λ a. atoms_of_piece nothing_set piece ++ a) (same_word p word parts.1)

same_fields : (p : Parameters) (words : List Word) → are_constant words ≡ true → flat_map (fields_of_word p) words ≡ flat_map (fields_of_word nothing_set) words
unfolding atoms
same_fields p [] e = refl
same_fields p (word ∷ words) e =
    let parts = and_parts (is_constant_word word) (are_constant words) e in
    ap (λ a. map kept_bytes (filter is_field (cut a)) ++ flat_map (fields_of_word p) words) (same_word p word parts.0)
    ∙ ap (λ a. fields_of_word nothing_set word ++ a) (same_fields p words parts.1)

pub constant_fields : (p : Parameters) (words : List Word) → are_constant words ≡ true → fields p words ≡ fields nothing_set words
unfolding fields
constant_fields p words e = same_fields p words e

if_known : (b : Bool) (all found : List (List ℕ)) → (if b then Some all else None) ≡ Some found → (b ≡ true) × (all ≡ found)
if_known true all found e = (refl, cc)
if_known false all found e = absurd (cc)

-- fields that are known are those by any variables and status
pub fields_by_all : (p : Parameters) (words : List Word) (found : List (List ℕ)) → known_fields words ≡ Some found
    → (found ≡ fields p words) × (nat_le (size found) most_bytes ≡ true)
fields_by_all p words found e =
    let known = if_known (are_constant words && nat_le (size (fields nothing_set words)) most_bytes) (fields nothing_set words) found e in
    let parts = and_parts (are_constant words) (nat_le (size (fields nothing_set words)) most_bytes) known.0 in
    (sym known.1 ∙ sym (constant_fields p words parts.0), ap (λ f. nat_le (size f) most_bytes) (sym known.1) ∙ parts.1)

pub by_any : {A : Type 0} (shown : A → List (List ℕ)) (p : Parameters) (words : List Word) (o : Option A) → option_map shown o ≡ known_fields words → IfSome o (λ a. shown a ≡ fields p words)
by_any shown p words None e = tt
by_any shown p words (Some a) e = (fields_by_all p words (shown a) (sym e)).0

pub known_lent : (o : Option (Bor (Rc (Vec (Vec ℕ Global) Global) Global))) → option_map (λ found. view.fields_in found.now) o ≡ view.known (option_copied o)
known_lent None = refl
known_lent (Some found) = refl

-- ---- the name that words start with

fields_behind : (p : Parameters) (word : Word) (words : List Word) → fields p (word ∷ words) ≡ fields_of_word p word ++ fields p words
unfolding fields
fields_behind p word words = refl

fields_alone : (p : Parameters) (word : Word) → fields p (word ∷ []) ≡ fields_of_word p word
unfolding fields
fields_alone p word = append-nil (fields_of_word p word)

first_before : (n : List ℕ) (all more : List (List ℕ)) → first_field all ≡ Some n → first_field (all ++ more) ≡ Some n
first_before n [] more e = absurd (cc)
first_before n (name ∷ all) more e = e

named_alone : (p : Parameters) (words : List Word) (found : List (List ℕ)) (n : List ℕ) → known_of_first words ≡ Some found → first_field found ≡ Some n → first_field (fields p words) ≡ Some n
named_alone p [] found n e h = absurd (cc)
named_alone p (word ∷ words) found n e h =
    ap first_field (fields_behind p word words)
    ∙ first_before n (fields_of_word p word) (fields p words) (ap first_field (sym ((fields_by_all p (word ∷ []) found e).0 ∙ fields_alone p word)) ∙ h)

named_either : (p : Parameters) (words : List Word) (n : List ℕ) (all front : Option (List (List ℕ))) → known_fields words ≡ all → known_of_first words ≡ front
    → option_and_then first_field (option_or all front) ≡ Some n → first_field (fields p words) ≡ Some n
named_either p words n (Some found) front e k h = ap first_field (sym (fields_by_all p words found e).0) ∙ h
named_either p words n None (Some found) e k h = named_alone p words found n k h
named_either p words n None None e k h = absurd (cc)

-- a name that is known is the first field by any variables and status
pub name_by_all : (p : Parameters) (words : List Word) (n : List ℕ) → known_name words ≡ Some n → first_field (fields p words) ≡ Some n
name_by_all p words n e = named_either p words n (known_fields words) (known_of_first words) refl refl e

named_first : (all : List (List ℕ)) → builtin_named all ≡ option_and_then builtin_of (first_field all)
named_first [] = refl
named_first (name ∷ more) = refl

named_as : (p : Parameters) (words : List Word) (name : Option (List ℕ)) (o : Option Builtin) → known_name words ≡ name → Some o ≡ option_map builtin_of name → o ≡ builtin_named (fields p words)
named_as p words None o k e = absurd (cc)
named_as p words (Some n) o k e =
    let same : o ≡ builtin_of n = cc in
    same ∙ sym (named_first (fields p words) ∙ ap (option_and_then builtin_of) (name_by_all p words n k))

-- what a known name is found to be is what the fields name
pub named_by_all : (p : Parameters) (words : List Word) (o : Option Builtin) → Some o ≡ option_map builtin_of (known_name words) → o ≡ builtin_named (fields p words)
named_by_all p words o e = named_as p words (known_name words) o refl e
