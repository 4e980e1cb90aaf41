-- What `==` says of lists of texts, of words and of assignments.
use Rattle.std.proofs.Common.{ℕ, Bool, true, false, not, ◌&&◌, List, [], ◌∷◌, map, refl, sym, ap, ◌≡◌, Vec}
use Rattle.std.proofs.Math.Bool.{beq}
use Rattle.std.specs.Bool.{Decides}
use Rattle.std.specs.Cmp.{booleans_Decides}
use Rattle.std.specs.Cmp.Lexicographic.{pointwise}
use Rattle.std.specs.Str.{bytes_eq}
use Rattle.std.specs.declared.alloc.Global.{Global}
use Rattle.std.proofs.lemmas.Bool.{not-false}
use Rattle.std.proofs.lemmas.Bool.Decides.{Decides-and, Decides-like, Decides-not}
use Rattle.std.proofs.lemmas.Slice.Eq.{bytes_eq-Decides}
use Rattle.text.specs.TextsShown.{bytes_of_words}
use Rattle.hushlang.specs.Tree as tree
use Rattle.hushlang.specs.TreesShown as view
use Rattle.hushlang.specs.declared.tree.Piece.{Piece}
use Rattle.hushlang.specs.declared.tree.Piece.TheVariants as pieces
use Rattle.hushlang.specs.declared.tree.Word.{Word}
use Rattle.hushlang.specs.contracts.tree.PiecePartialEq.TheImpl as piece_eq
use Rattle.hushlang.specs.contracts.tree.WordPartialEq.TheImpl as word_eq

-- ---- what a test by `!=` says

pub same_by : {P : Type 0} {r : Bool} → Decides r P → false ≡ not r → P
same_by {r = r} d e = d.0 (not-false r (sym e))

pub other_by : {P : Type 0} {r : Bool} → Decides r P → true ≡ not r → P → ⊥
other_by {r = r} d e = (Decides-not r d).0 (sym e)

-- ---- lists

-- two lists, by what a view sees of their items
pub decided : {X Y : Type 0} {E : X → X → Bool} (f : X → Y) → ((a b : X) → Decides (E a b) (f a ≡ f b)) → (xs ys : List X) → Decides (pointwise E xs ys) (map f xs ≡ map f ys)
decided f each [] [] = (λ t. refl, λ e. refl)
decided f each [] (y ∷ ys) = (λ t. absurd (let u = t in cc), λ e. absurd (let u = e in cc))
decided f each (x ∷ xs) [] = (λ t. absurd (let u = t in cc), λ e. absurd (let u = e in cc))
decided {E = E} f each (x ∷ xs) (y ∷ ys) =
    Decides-like (E x y && pointwise E xs ys) (λ h j. h.0 j ∷ h.1 j) (λ e. (cc, cc))
    (Decides-and (E x y) (pointwise E xs ys) (each x y) (decided f each xs ys))

pub texts_decided : (xs ys : List (Vec ℕ Global)) → Decides (pointwise (λ a b. bytes_eq a.items b.items) xs ys) (bytes_of_words xs ≡ bytes_of_words ys)
texts_decided = decided (λ text. text.items) (λ a b. bytes_eq-Decides a.items b.items)

-- ---- words

bytes_decided : (x y : List ℕ) → Decides (bytes_eq x y) (tree.Bytes x ≡ tree.Bytes y)
bytes_decided x y = Decides-like (bytes_eq x y) (ap tree.Bytes) (λ e. cc) (bytes_eq-Decides x y)

var_decided : (x y : List ℕ) (p q : Bool) → Decides (bytes_eq x y && beq p q) (tree.Var x p ≡ tree.Var y q)
var_decided x y p q =
    Decides-like (bytes_eq x y && beq p q) (λ h j. tree.Var (h.0 j) (h.1 j)) (λ e. (cc, cc))
    (Decides-and (bytes_eq x y) (beq p q) (bytes_eq-Decides x y) (booleans_Decides p q))

piece_decided : (a b : Piece) → Decides (piece_eq.ghosts.eq a b) (view.piece a ≡ view.piece b)
piece_decided (pieces.Bytes x) (pieces.Bytes y) = bytes_decided x.items y.items
piece_decided pieces.Mark pieces.Mark = (λ t. refl, λ e. refl)
piece_decided (pieces.Var x p) (pieces.Var y q) = var_decided x.items y.items p q
piece_decided pieces.Status pieces.Status = (λ t. refl, λ e. refl)
piece_decided a b = (λ t. absurd (let u = t in cc), λ e. absurd (let u = e in cc))

word_decided : (a b : Word) → Decides (word_eq.ghosts.eq a b) (view.word a ≡ view.word b)
word_decided a b = decided view.piece piece_decided a.pieces.items b.pieces.items

pub words_decided : (xs ys : List Word) → Decides (pointwise word_eq.ghosts.eq xs ys) (map view.word xs ≡ map view.word ys)
words_decided = decided view.word word_decided

-- ---- assignments

abbrev pub Value : Type 0
Value = Vec ℕ Global × Word

abbrev pub value_eq : Value → Value → Bool
value_eq a b = bytes_eq a.0.items b.0.items && word_eq.ghosts.eq a.1 b.1

value_decided : (a b : Value) → Decides (value_eq a b) (view.value a ≡ view.value b)
value_decided a b =
    Decides-like (value_eq a b) (λ h j. (h.0 j, h.1 j)) (λ e. (ap (λ (v : List ℕ × tree.Word). v.0) e, ap (λ (v : List ℕ × tree.Word). v.1) e))
    (Decides-and (bytes_eq a.0.items b.0.items) (word_eq.ghosts.eq a.1 b.1) (bytes_eq-Decides a.0.items b.0.items) (word_decided a.1 b.1))

pub values_decided : (xs ys : List Value) → Decides (pointwise value_eq xs ys) (map view.value xs ≡ map view.value ys)
values_decided = decided view.value value_decided
