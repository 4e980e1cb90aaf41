use Rattle.std.proofs.Common.{◌≡◌, ◌∙◌, ◌++◌, ◌⊎◌, inl, inr, ℕ, List, [], ◌∷◌, Vec, Global, Bor, map, ap, ap₂, append-nil, append_assoc, sym, refl}
use Rattle.std.proofs.lemmas.List.{map-append}
use Rattle.std.proofs.lemmas.Slice.Zip.{Zip-more, either_empty_from_Zip}
use Rattle.std.specs.Iterator.Adapters.{zip_first, zip_second}
use Rattle.std.specs.List.{zip}
use Rattle.std.specs.Slice.Iter.{iter_rest}
use Rattle.envimage.specs.Data.{Pair}
use Rattle.envimage.specs.Entries.{pair_at}
use Rattle.text.specs.TextsShown.{bytes_of_words}
use Rattle.rehearse_boots.proofs.kept.add_changes.Goals as goal

-- the changes of what is left
abbrev changes_left : List (Bor (List ℕ)) → List (Vec ℕ Global) → List Pair
changes_left names kept = zip (map (λ n. n.now) names) (bytes_of_words kept)

-- with the change of the next variable
one_more : (now next all : List Pair) (names left : List (Bor (List ℕ))) (values rest : List (Vec ℕ Global)) (name : Bor (List ℕ)) (value : Vec ℕ Global) → names ≡ name ∷ left → values ≡ value ∷ rest
    → next ≡ now ++ (name.now, value.items) ∷ [] → now ++ changes_left names values ≡ all → next ++ changes_left left rest ≡ all
one_more now next all names left values rest name value first second more so =
    ap (λ (t : List Pair). t ++ changes_left left rest) more
    ∙ append_assoc now ((name.now, value.items) ∷ []) (changes_left left rest)
    ∙ sym (ap₂ (λ (ns : List (Bor (List ℕ))) (vs : List (Vec ℕ Global)). now ++ changes_left ns vs) first second)
    ∙ so

none_without_values : (names : List (Bor (List ℕ))) → changes_left names [] ≡ []
none_without_values [] = refl
none_without_values (name ∷ names) = refl

none_left : (names : List (Bor (List ℕ))) (values : List (Vec ℕ Global)) → (names ≡ []) ⊎ (values ≡ []) → changes_left names values ≡ []
none_left names values (inl e) = ap (λ (ns : List (Bor (List ℕ))). changes_left ns values) e
none_left names values (inr e) = ap (changes_left names) e ∙ none_without_values names

pub loop-name-init : goal.loop-name-init
loop-name-init c =
    let first : iter_rest (zip_first c.into_iter-name-iterator.result) ≡ c.args.names.now = cc in
    let second : iter_rest (zip_second c.into_iter-name-iterator.result) ≡ c.args.kept.now = cc in
    ap₂ (λ (ns : List (Bor (List ℕ))) (vs : List (Vec ℕ Global)). map pair_at c.args.changes.now.items ++ changes_left ns vs) first second

pub loop-name-preserved : goal.loop-name-preserved
loop-name-preserved c =
    let more = Zip-more c.loop-name.name-iterator c.next.new.self c.next.result (c.in-Some.name, c.in-Some.value) c.in-Some.is c.next.ensures.steps in
    one_more (map pair_at c.loop-name.changes.items) (map pair_at c.push.new.self.items) _ _ _ _ _ c.in-Some.name.now c.in-Some.value.now more.0 more.1
    (ap (map pair_at) c.in_ok-push.ensures.items ∙ map-append pair_at c.loop-name.changes.items _ ∙ ap (λ (value : List ℕ). map pair_at c.loop-name.changes.items ++ (c.in-Some.name.now.now, value) ∷ []) c.as_slice.ensures.value)
    c.loop-name.invariant

pub returns : goal.returns
returns c =
    let empty = either_empty_from_Zip c.loop-name.name-iterator c.next.new.self c.next.result c.in-None.is c.next.ensures.steps in
    sym (ap (λ (t : List Pair). map pair_at c.loop-name.changes.items ++ t) (none_left _ _ empty) ∙ append-nil (map pair_at c.loop-name.changes.items)) ∙ c.loop-name.invariant
