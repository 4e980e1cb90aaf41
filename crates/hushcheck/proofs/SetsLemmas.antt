-- Lists that are made item by item.
use Rattle.std.proofs.Common.{◌≡◌, ℕ, zero, suc, ◌+◌, ◌<◌, ◌≤◌, List, [], ◌∷◌, ◌++◌, length, map, take, drop, get_or, refl, sym, ap, ◌∙◌, add-one, arith}
use Rattle.std.proofs.lemmas.List.{take_all}
use Rattle.std.specs.List.{flat_map}
use Rattle.hushcheck.specs.CallSetsShown.{names_shown}
use Rattle.hushcheck.specs.Remarks.{all_found}
use Rattle.hushcheck.specs.UsedShown.{all_used}
use Rattle.hushcheck.specs.declared.remark.Found.{Found}
use Rattle.hushcheck.specs.declared.unset.Used.{Used}

map-upto : {Y A : Type 0} (g : Y → A) (xs : List Y) (i : ℕ) (d : Y) → i < length xs → map g (take (suc i) xs) ≡ map g (take i xs) ++ g (get_or xs i d) ∷ []
map-upto g [] i d h = absurd (omega arith)
map-upto g (x ∷ xs) zero d h = refl
map-upto g (x ∷ xs) (suc i) d h = ap (λ t. g x ∷ t) (map-upto g xs i d (omega arith))

pub map-push : {X A : Type 0} (f : X → A) (items : List X) (new : X) → map f (items ++ new ∷ []) ≡ map f items ++ f new ∷ []
map-push f [] new = refl
map-push f (x ∷ items) new = ap (λ t. f x ∷ t) (map-push f items new)

module _ {X Y A : Type 0} (f : X → A) (g : Y → A) where
  -- one more item
  pub map_item : (items items' : List X) (new : X) (xs : List Y) (i : ℕ) (x : Y) → i < length xs → x ≡ get_or xs i x → map f items ≡ map g (take i xs) → items' ≡ items ++ new ∷ [] → f new ≡ g x
      → map f items' ≡ map g (take (i + 1) xs)
  map_item items items' new xs i x within is before e so =
      let one : map g (take i xs) ++ g x ∷ [] ≡ map g (take (i + 1) xs) = ap (λ y. map g (take i xs) ++ g y ∷ []) is ∙ sym (rw add-one (map-upto g xs i x within)) in
      ap (map f) e ∙ map-push f items new ∙ ap (λ y. map f items ++ y ∷ []) so ∙ ap (λ t. t ++ g x ∷ []) before ∙ one

  -- all items
  pub map_all : (items : List X) (xs : List Y) (i : ℕ) → length xs ≤ i → map f items ≡ map g (take i xs) → map f items ≡ map g xs
  map_all items xs i past e = e ∙ ap (map g) (take_all i xs past)

pub map_twice : {X Y A : Type 0} (f : Y → A) (g : X → Y) (xs : List X) → map (λ x. f (g x)) xs ≡ map f (map g xs)
map_twice f g [] = refl
map_twice f g (x ∷ xs) = ap (λ t. f (g x) ∷ t) (map_twice f g xs)

-- the items from a place on
pub drop_item : {X : Type 0} (xs : List X) (i : ℕ) (x : X) → i < length xs → x ≡ get_or xs i x → drop i xs ≡ x ∷ drop (i + 1) xs
drop_item [] i x h is = absurd (omega (arith, h))
drop_item (y ∷ xs) zero x h is = ap (λ z. z ∷ xs) (sym is)
drop_item (y ∷ xs) (suc i) x h is = let e : suc i + 1 ≡ suc (i + 1) = omega arith in drop_item xs i x (omega (arith, h)) is ∙ ap (λ t. x ∷ t) (sym (ap (λ k. drop k (y ∷ xs)) e))

pub drop_all : {X : Type 0} (xs : List X) (i : ℕ) → length xs ≤ i → drop i xs ≡ []
drop_all [] zero h = refl
drop_all [] (suc i) h = refl
drop_all (x ∷ xs) zero h = absurd (omega (arith, h))
drop_all (x ∷ xs) (suc i) h = drop_all xs i (omega (arith, h))

-- the names that texts set
pub sets_shown : (used : List Used) → flat_map (λ (u : Used). names_shown u.sets.items) used ≡ flat_map (λ u. u.sets) (all_used used)
sets_shown [] = refl
sets_shown (u ∷ used) = ap (λ t. names_shown u.sets.items ++ t) (sets_shown used)

pub many-found : (found : List Found) → length (all_found found) ≡ length found
many-found [] = refl
many-found (f ∷ found) = ap suc (many-found found)
