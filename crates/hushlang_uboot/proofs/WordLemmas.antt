-- Words and their pieces: what loops over them keep, and the one field of a word that nothing can change.
use Rattle.std.proofs.Common.{◌≡◌, ◌∙◌, refl, sym, ap, ℕ, Bool, true, false, ◌&&◌, ◌||◌, List, [], ◌∷◌, ◌++◌, map, if◌then◌else◌, append_assoc, append-nil, arith}
use Rattle.std.specs.List.{list_all, list_any, flat_map, filter}
use Rattle.std.proofs.lemmas.Bool.{and_parts}
use Rattle.std.proofs.lemmas.List.Folds.{list_all-map}
use Rattle.hushlang.specs.Tree as tree
use Rattle.hushlang.specs.Tree.{Word, Piece}
use Rattle.hushlang.specs.TreesShown as view
use Rattle.hushlang.specs.declared.tree.Word.{Word as Code}
use Rattle.hushlang.specs.declared.tree.Piece.{Piece as CodePiece}
use Rattle.hushlang.specs.Expansion.{Atom, Kept, Separator, Mark, Parameters, atoms_of_piece, atoms, onto_first, cut, is_field, kept_bytes, fields_of_word, all_bytes, joined}
use Rattle.hushlang.specs.KnownFields.{is_constant, is_constant_word, are_constant}
use Rattle.hushlang_uboot.specs.Pieces.{is_something}
use Rattle.hushlang_uboot.specs.ReadBytes.{has_bytes}

-- ---- a test of all or any

pub all_of_pieces : (pieces : List CodePiece) → list_all is_constant (map view.piece pieces) ≡ list_all (λ p. is_constant (view.piece p)) pieces
all_of_pieces pieces = list_all-map is_constant view.piece pieces

pub all_of_words : (words : List Code) → list_all is_constant_word (map view.word words) ≡ list_all (λ w. is_constant_word (view.word w)) words
all_of_words words = list_all-map is_constant_word view.word words

pub any_of_map : {A B : Type 0} (test : B → Bool) (make : A → B) (xs : List A) → list_any test (map make xs) ≡ list_any (λ x. test (make x)) xs
any_of_map test make [] = refl
any_of_map test make (x ∷ xs) = ap (λ more. test (make x) || more) (any_of_map test make xs)

-- ---- the next item of a loop

pub flat_next : {A B : Type 0} (f : A → List B) (before after all : List B) (x : A) (these rest : List A) → these ≡ x ∷ rest → before ++ flat_map f these ≡ all → after ≡ before ++ f x → after ++ flat_map f rest ≡ all
flat_next f before after all x these rest first same is =
    ap (λ now. now ++ flat_map f rest) is ∙ append_assoc before (f x) (flat_map f rest) ∙ ap (λ xs. before ++ flat_map f xs) (sym first) ∙ same

pub flat_done : {A B : Type 0} (f : A → List B) (before all : List B) (these : List A) → these ≡ [] → before ++ flat_map f these ≡ all → before ≡ all
flat_done f before all these none same = sym (append-nil before) ∙ ap (λ xs. before ++ flat_map f xs) (sym none) ∙ same

-- ---- a word that nothing can change

is_uncut : Atom → Bool
is_uncut (Kept byte) = true
is_uncut (Separator byte) = false
is_uncut Mark = true

uncut_bytes : (bytes : List ℕ) → list_all is_uncut (map Kept bytes) ≡ true
unfolding is_uncut
uncut_bytes [] = refl
uncut_bytes (byte ∷ bytes) = uncut_bytes bytes

both_uncut : (a b : List Atom) → list_all is_uncut a ≡ true → list_all is_uncut b ≡ true → list_all is_uncut (a ++ b) ≡ true
both_uncut [] b e h = h
both_uncut (atom ∷ a) b e h =
    let parts = and_parts (is_uncut atom) (list_all is_uncut a) e in
    ap (λ first. first && list_all is_uncut (a ++ b)) parts.0 ∙ both_uncut a b parts.1 h

uncut_piece : (p : Parameters) (piece : Piece) → is_constant piece ≡ true → list_all is_uncut (atoms_of_piece p piece) ≡ true
unfolding is_uncut
uncut_piece p (tree.Bytes bytes) e = uncut_bytes bytes
uncut_piece p tree.Mark e = refl
uncut_piece p (tree.Var name split) e = absurd (cc)
uncut_piece p tree.Status e = absurd (cc)

uncut_word : (p : Parameters) (word : Word) → is_constant_word word ≡ true → list_all is_uncut (flat_map (atoms_of_piece p) word) ≡ true
uncut_word p [] e = refl
uncut_word p (piece ∷ word) e =
    let parts = and_parts (is_constant piece) (is_constant_word word) e in
    both_uncut (atoms_of_piece p piece) (flat_map (atoms_of_piece p) word) (uncut_piece p piece parts.0) (uncut_word p word parts.1)

cut_uncut : (all : List Atom) → list_all is_uncut all ≡ true → cut all ≡ all ∷ []
unfolding is_uncut
cut_uncut [] e = refl
cut_uncut (Kept byte ∷ all) e = ap (onto_first (Kept byte)) (cut_uncut all e)
cut_uncut (Separator byte ∷ all) e = absurd (cc)
cut_uncut (Mark ∷ all) e = ap (onto_first Mark) (cut_uncut all e)

bytes_uncut : (all : List Atom) → list_all is_uncut all ≡ true → kept_bytes all ≡ all_bytes all
unfolding is_uncut
bytes_uncut [] e = refl
bytes_uncut (Kept byte ∷ all) e = ap (λ rest. byte ∷ rest) (bytes_uncut all e)
bytes_uncut (Separator byte ∷ all) e = absurd (cc)
bytes_uncut (Mark ∷ all) e = bytes_uncut all e

-- a word has an atom if a piece of it is something
field_of_both : (a b : List Atom) → is_field (a ++ b) ≡ (is_field a || is_field b)
field_of_both [] b = refl
field_of_both (atom ∷ a) b = refl

field_of_bytes : (bytes : List ℕ) → is_field (map Kept bytes) ≡ has_bytes bytes
field_of_bytes [] = refl
field_of_bytes (byte ∷ bytes) = grind arith

field_of_piece : (p : Parameters) (piece : Piece) → is_constant piece ≡ true → is_field (atoms_of_piece p piece) ≡ is_something piece
field_of_piece p (tree.Bytes bytes) e = field_of_bytes bytes
field_of_piece p tree.Mark e = refl
field_of_piece p (tree.Var name split) e = absurd (cc)
field_of_piece p tree.Status e = absurd (cc)

field_of_word : (p : Parameters) (word : Word) → is_constant_word word ≡ true → is_field (flat_map (atoms_of_piece p) word) ≡ list_any is_something word
field_of_word p [] e = refl
field_of_word p (piece ∷ word) e =
    let parts = and_parts (is_constant piece) (is_constant_word word) e in
    field_of_both (atoms_of_piece p piece) (flat_map (atoms_of_piece p) word)
    ∙ ap (λ first. first || is_field (flat_map (atoms_of_piece p) word)) (field_of_piece p piece parts.0)
    ∙ ap (λ more. is_something piece || more) (field_of_word p word parts.1)

-- the field of atoms that are not cut
abbrev pub whole_field : Bool → List ℕ → List (List ℕ)
whole_field some bytes = if some then bytes ∷ [] else []

field_of_atoms : (all : List Atom) → list_all is_uncut all ≡ true → map kept_bytes (filter is_field (all ∷ [])) ≡ whole_field (is_field all) (all_bytes all)
field_of_atoms [] e = refl
field_of_atoms (atom ∷ all) e = ap (λ bytes. bytes ∷ []) (bytes_uncut (atom ∷ all) e)

-- its field, whole, if it has one
pub one_field : (p : Parameters) (word : Word) → is_constant_word word ≡ true → fields_of_word p word ≡ whole_field (list_any is_something word) (joined p word)
unfolding atoms joined
one_field p word e =
    let all = flat_map (atoms_of_piece p) word in
    let uncut = uncut_word p word e in
    ap (λ parts. map kept_bytes (filter is_field parts)) (cut_uncut all uncut)
    ∙ field_of_atoms all uncut
    ∙ ap (λ some. whole_field some (all_bytes all)) (field_of_word p word e)

-- the first of words that nothing can change, and those after it
pub constant_first : (word : Word) (these rest : List Word) → these ≡ word ∷ rest → are_constant these ≡ true → (is_constant_word word ≡ true) × (are_constant rest ≡ true)
constant_first word these rest first e = and_parts (is_constant_word word) (are_constant rest) (ap are_constant (sym first) ∙ e)
