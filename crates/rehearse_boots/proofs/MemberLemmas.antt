-- Elements of lists that are made of others.
use Rattle.std.proofs.Common.{◌≡◌, ℕ, zero, suc, ◌⊎◌, inl, inr, Bool, true, false, cond, ◌||◌, List, [], ◌∷◌, ◌++◌, map, filter, Some, option_map, refl, sym, ap, subst, ◌∙◌}
use Rattle.std.specs.List.{AllByRecursion, flat_map, list_any, slice_get}
use Rattle.std.specs.Prelude.{Contains}
use Rattle.std.proofs.lemmas.Option.{get_or_from_slice_get, slice_get-get_or, slice_get-map, slice_get_within}

-- it is one of them
abbrev pub Has : {X : Type 0} → X → List X → Type 0
Has x [] = ⊥
Has x (y ∷ ys) = (y ≡ x) ⊎ Has x ys

pub has_at : {X : Type 0} (xs : List X) (i : ℕ) (x : X) → slice_get xs i ≡ Some x → Has x xs
has_at [] i x e = absurd (let f = e in cc)
has_at (y ∷ ys) zero x e = inl (let f = e in cc)
has_at (y ∷ ys) (suc i) x e = inr (has_at ys i x e)

pub has_contained : {X : Type 0} (xs : List X) (x : X) → Contains xs x → Has x xs
has_contained xs x c = has_at xs c.0 x (slice_get-get_or xs c.0 x c.1 ∙ ap Some c.2)

pub place_of : {X : Type 0} (xs : List X) (x : X) → Has x xs → (i : ℕ) × (slice_get xs i ≡ Some x)
place_of [] x h = absurd h
place_of (y ∷ ys) x (inl e) = (0, ap Some e)
place_of (y ∷ ys) x (inr h) = let rest = place_of ys x h in (suc rest.0, rest.1)

pub contained_has : {X : Type 0} (xs : List X) (x : X) → Has x xs → Contains xs x
contained_has xs x h = let at = place_of xs x h in (at.0, slice_get_within xs at.0 x at.1, get_or_from_slice_get xs at.0 x x at.1)

pub has_map : {X Y : Type 0} (f : X → Y) (xs : List X) (x : X) → Has x xs → Has (f x) (map f xs)
has_map f [] x h = absurd h
has_map f (y ∷ ys) x (inl e) = inl (ap f e)
has_map f (y ∷ ys) x (inr h) = inr (has_map f ys x h)

pub map_has : {X Y : Type 0} (f : X → Y) (xs : List X) (y : Y) → Has y (map f xs) → (x : X) × Has x xs × (f x ≡ y)
map_has f [] y h = absurd h
map_has f (x ∷ xs) y (inl e) = (x, inl refl, e)
map_has f (x ∷ xs) y (inr h) = let rest = map_has f xs y h in (rest.0, inr rest.1, rest.2)

pub has_left : {X : Type 0} (xs ys : List X) (x : X) → Has x xs → Has x (xs ++ ys)
has_left [] ys x h = absurd h
has_left (z ∷ xs) ys x (inl e) = inl e
has_left (z ∷ xs) ys x (inr h) = inr (has_left xs ys x h)

pub has_right : {X : Type 0} (xs ys : List X) (x : X) → Has x ys → Has x (xs ++ ys)
has_right [] ys x h = h
has_right (z ∷ xs) ys x h = inr (has_right xs ys x h)

pub has_either : {X : Type 0} (xs ys : List X) (x : X) → Has x (xs ++ ys) → Has x xs ⊎ Has x ys
has_either [] ys x h = inr h
has_either (z ∷ xs) ys x (inl e) = inl (inl e)
has_either (z ∷ xs) ys x (inr h) = by (has_either xs ys x h)
  where
    by : Has x xs ⊎ Has x ys → Has x (z ∷ xs) ⊎ Has x ys
    by (inl k) = inl (inr k)
    by (inr k) = inr k

pub has_flat : {X Y : Type 0} (f : X → List Y) (xs : List X) (x : X) (y : Y) → Has x xs → Has y (f x) → Has y (flat_map f xs)
has_flat f [] x y h k = absurd h
has_flat f (z ∷ xs) x y (inl e) k = has_left (f z) (flat_map f xs) y (subst (λ w. Has y (f w)) (sym e) k)
has_flat f (z ∷ xs) x y (inr h) k = has_right (f z) (flat_map f xs) y (has_flat f xs x y h k)

pub flat_has : {X Y : Type 0} (f : X → List Y) (xs : List X) (y : Y) → Has y (flat_map f xs) → (x : X) × Has x xs × Has y (f x)
flat_has f [] y h = absurd h
flat_has {X} f (z ∷ xs) y h = by (flat_has f xs y) (has_either (f z) (flat_map f xs) y h)
  where
    by : (Has y (flat_map f xs) → (x : X) × Has x xs × Has y (f x)) → Has y (f z) ⊎ Has y (flat_map f xs) → (x : X) × Has x (z ∷ xs) × Has y (f x)
    by further (inl k) = (z, inl refl, k)
    by further (inr k) = let rest = further k in (rest.0, inr rest.1, rest.2)

pub has_filter : {X : Type 0} (p : X → Bool) (xs : List X) (x : X) → Has x xs → p x ≡ true → Has x (filter p xs)
has_filter p [] x h is = absurd h
has_filter p (y ∷ ys) x (inl e) is = subst (λ (b : Bool). Has x (cond b (y ∷ filter p ys) (filter p ys))) (sym (ap p e ∙ is)) (inl e)
has_filter p (y ∷ ys) x (inr h) is = by (p y) (has_filter p ys x h is)
  where
    by : (b : Bool) → Has x (filter p ys) → Has x (cond b (y ∷ filter p ys) (filter p ys))
    by true k = inr k
    by false k = k

pub filter_has : {X : Type 0} (p : X → Bool) (xs : List X) (x : X) → Has x (filter p xs) → Has x xs × (p x ≡ true)
filter_has p [] x h = absurd h
filter_has p (y ∷ ys) x h = by (filter_has p ys x) (p y) refl h
  where
    by : (Has x (filter p ys) → Has x ys × (p x ≡ true)) → (b : Bool) → p y ≡ b → Has x (cond b (y ∷ filter p ys) (filter p ys)) → Has x (y ∷ ys) × (p x ≡ true)
    by further true is (inl e) = (inl e, ap p (sym e) ∙ is)
    by further true is (inr k) = let rest = further k in (inr rest.0, rest.1)
    by further false is k = let rest = further k in (inr rest.0, rest.1)

pub any_has : {X : Type 0} (p : X → Bool) (xs : List X) → list_any p xs ≡ true → (x : X) × Has x xs × (p x ≡ true)
any_has p [] h = absurd (let f = h in cc)
any_has {X} p (y ∷ ys) h = by (any_has p ys) (p y) refl h
  where
    by : (list_any p ys ≡ true → (x : X) × Has x ys × (p x ≡ true)) → (b : Bool) → p y ≡ b → (b || list_any p ys) ≡ true → (x : X) × Has x (y ∷ ys) × (p x ≡ true)
    by further true is k = (y, inl refl, is)
    by further false is k = let rest = further k in (rest.0, inr rest.1, rest.2)

pub has_any : {X : Type 0} (p : X → Bool) (xs : List X) (x : X) → Has x xs → p x ≡ true → list_any p xs ≡ true
has_any p [] x h is = absurd h
has_any p (y ∷ ys) x (inl e) is = ap (λ b. b || list_any p ys) (ap p e ∙ is)
has_any p (y ∷ ys) x (inr h) is = by (p y) (has_any p ys x h is)
  where
    by : (b : Bool) → list_any p ys ≡ true → (b || list_any p ys) ≡ true
    by true k = refl
    by false k = k

pub all_has : {X : Type 0} (P : X → Type 0) (xs : List X) (x : X) → AllByRecursion P xs → Has x xs → P x
all_has P [] x all h = absurd h
all_has P (y ∷ ys) x all (inl e) = subst P e all.0
all_has P (y ∷ ys) x all (inr h) = all_has P ys x all.1 h

pub has_all : {X : Type 0} (P : X → Type 0) (xs : List X) → ((x : X) → Has x xs → P x) → AllByRecursion P xs
has_all P [] f = tt
has_all P (x ∷ xs) f = (f x (inl refl), has_all P xs (λ y h. f y (inr h)))

-- what a place of a mapped list has
pub map_at : {X Y : Type 0} (f : X → Y) (xs : List X) (i : ℕ) (y : Y) → slice_get (map f xs) i ≡ Some y → (x : X) × (slice_get xs i ≡ Some x) × (f x ≡ y)
map_at f [] i y e = absurd (let g = e in cc)
map_at f (x ∷ xs) zero y e = (x, refl, let g = e in cc)
map_at f (x ∷ xs) (suc i) y e = map_at f xs i y e

pub at_map : {X Y : Type 0} (f : X → Y) (xs : List X) (i : ℕ) (x : X) → slice_get xs i ≡ Some x → slice_get (map f xs) i ≡ Some (f x)
at_map f xs i x e = slice_get-map f xs i ∙ ap (option_map f) e
