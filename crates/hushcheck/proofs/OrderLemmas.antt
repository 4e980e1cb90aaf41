-- Names in order, each once.
use Rattle.std.proofs.Common.{◌≡◌, ℕ, zero, suc, ◌+◌, ◌<◌, ◌≤◌, Bool, true, false, List, [], ◌∷◌, ◌++◌, length, map, take, get_or, refl, sym, ap, ◌∙◌, add-one, append_assoc, arith, Vec, if◌then◌else◌, ◌||◌}
use Rattle.std.proofs.lemmas.List.{append-nil, take_all}
use Rattle.std.specs.List.{flat_map, list_any}
use Rattle.std.specs.declared.alloc.Global.{Global}
use Rattle.indexmap.specs.IndexSet.{insert_key}
use Rattle.envtools.specs.Environment.{same}
use Rattle.hushcheck.specs.Names.{Text}
use Rattle.hushcheck.specs.Order.{with_name, with_names, once}

-- names that are added after others in two turns
pub with_names-append : (names a b : List Text) → with_names names (a ++ b) ≡ with_names (with_names names a) b
with_names-append names [] b = refl
with_names-append names (n ∷ a) b = with_names-append (with_name names n) a b

flat_map-upto : {X : Type 0} (f : X → List Text) (xs : List X) (i : ℕ) (d : X) → i < length xs → flat_map f (take (suc i) xs) ≡ flat_map f (take i xs) ++ f (get_or xs i d)
flat_map-upto f [] i d h = absurd (omega arith)
flat_map-upto f (x ∷ xs) zero d h = append-nil (f x)
flat_map-upto f (x ∷ xs) (suc i) d h = ap (λ t. f x ++ t) (flat_map-upto f xs i d (omega arith)) ∙ sym (append_assoc (f x) (flat_map f (take i xs)) (f (get_or xs i d)))

map-upto : {X : Type 0} (g : X → Text) (xs : List X) (i : ℕ) (d : X) → i < length xs → map g (take (suc i) xs) ≡ map g (take i xs) ++ g (get_or xs i d) ∷ []
map-upto g [] i d h = absurd (omega arith)
map-upto g (x ∷ xs) zero d h = refl
map-upto g (x ∷ xs) (suc i) d h = ap (λ t. g x ∷ t) (map-upto g xs i d (omega arith))

-- one more name
pub once_item : {X : Type 0} (g : X → Text) (xs : List X) (i : ℕ) (d : X) (now next : List Text) (name : Text) → i < length xs → name ≡ g (get_or xs i d) → now ≡ once (map g (take i xs)) → next ≡ with_name now name → next ≡ once (map g (take (i + 1) xs))
once_item g xs i d now next name within is before e =
    let one : map g (take i xs) ++ g (get_or xs i d) ∷ [] ≡ map g (take (i + 1) xs) = sym (rw add-one (map-upto g xs i d within)) in
    e ∙ ap (λ ns. with_name ns name) before ∙ ap (with_name (once (map g (take i xs)))) is ∙ sym (with_names-append [] (map g (take i xs)) (g (get_or xs i d) ∷ [])) ∙ ap once one

-- one more name after others
pub added_item : {X : Type 0} (g : X → Text) (start : List Text) (xs : List X) (now next : List Text) (i : ℕ) (x : X) (name : Text) → i < length xs → x ≡ get_or xs i x → name ≡ g x → now ≡ with_names start (map g (take i xs)) → next ≡ with_name now name
    → next ≡ with_names start (map g (take (i + 1) xs))
added_item g start xs now next i x name within is so before e =
    let one : map g (take i xs) ++ g x ∷ [] ≡ map g (take (i + 1) xs) = ap (λ y. map g (take i xs) ++ g y ∷ []) is ∙ sym (rw add-one (map-upto g xs i x within)) in
    e ∙ ap (λ ns. with_name ns name) before ∙ ap (with_name (with_names start (map g (take i xs)))) so ∙ sym (with_names-append start (map g (take i xs)) (g x ∷ [])) ∙ ap (with_names start) one

module _ {X : Type 0} (f : X → List Text) (start : List Text) (xs : List X) where
  -- the names of one more item
  pub names_item : (now next : List Text) (i : ℕ) (x : X) → i < length xs → x ≡ get_or xs i x → now ≡ with_names start (flat_map f (take i xs)) → next ≡ with_names now (f x) → next ≡ with_names start (flat_map f (take (i + 1) xs))
  names_item now next i x within is before e =
      let one : flat_map f (take i xs) ++ f x ≡ flat_map f (take (i + 1) xs) = ap (λ y. flat_map f (take i xs) ++ f y) is ∙ sym (rw add-one (flat_map-upto f xs i x within)) in
      e ∙ ap (λ ns. with_names ns (f x)) before ∙ sym (with_names-append start (flat_map f (take i xs)) (f x)) ∙ ap (with_names start) one

  -- the names of all items
  pub names_all : (now : List Text) (i : ℕ) → length xs ≤ i → now ≡ with_names start (flat_map f (take i xs)) → now ≡ with_names start (flat_map f xs)
  names_all now i past e = e ∙ ap (λ ys. with_names start (flat_map f ys)) (take_all i xs past)

-- ---- names in a set

abbrev pub seen : List (Vec ℕ Global) → List Text
seen names = map (λ name. name.items) names

any_seen : (name : Vec ℕ Global) (names : List (Vec ℕ Global)) → list_any (λ b. same name.items b.items) names ≡ list_any (same name.items) (seen names)
any_seen name [] = refl
any_seen name (n ∷ names) = ap (λ b. same name.items n.items || b) (any_seen name names)

seen-append : (names : List (Vec ℕ Global)) (name : Vec ℕ Global) → seen (names ++ name ∷ []) ≡ seen names ++ name.items ∷ []
seen-append [] name = refl
seen-append (n ∷ names) name = ap (λ rest. n.items ∷ rest) (seen-append names name)

seen-if : (b : Bool) (names : List (Vec ℕ Global)) (name : Vec ℕ Global) → seen (if b then names else names ++ name ∷ []) ≡ (if b then seen names else seen names ++ name.items ∷ [])
seen-if true names name = refl
seen-if false names name = seen-append names name

pub seen-insert : (old new : List (Vec ℕ Global)) (names : List Text) (name : Vec ℕ Global) → seen old ≡ names → new ≡ insert_key (λ a b. same a.items b.items) old name → seen new ≡ with_name names name.items
seen-insert old new names name view e =
    ap seen e ∙ seen-if (list_any (λ b. same name.items b.items) old) old name ∙ ap (λ b. if b then seen old else seen old ++ name.items ∷ []) (any_seen name old) ∙ ap (λ ns. with_name ns name.items) view

pub seen-there : (old : List (Vec ℕ Global)) (names : List Text) (name : Vec ℕ Global) → seen old ≡ names → list_any (λ b. same name.items b.items) old ≡ list_any (same name.items) names
seen-there old names name view = any_seen name old ∙ ap (list_any (same name.items)) view
