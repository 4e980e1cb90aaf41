use Rattle.std.proofs.Common.{◌≡◌, ◌∙◌, ◌++◌, ◌⊎◌, inl, inr, ℕ, List, [], ◌∷◌, Option, Vec, Global, Bor, flat_map, map, ap, ap₂, append-nil, append_assoc, refl, sym}
use Rattle.std.proofs.lemmas.Slice.Zip.{Zip-more, either_empty_from_Zip}
use Rattle.std.specs.Iterator.Adapters.{zip_first, zip_second}
use Rattle.std.specs.Slice.Iter.{iter_rest}
use Rattle.rehearse_terms.specs.State.{Text}
use Rattle.rehearse_rules.specs.Listing.{line}
use Rattle.rehearse_states.specs.EndingLines.{value_lines, value_texts}
use Rattle.rehearse_states.specs.RowsShown.{value_shown}
use Rattle.rehearse_states.proofs.value_lines.put_values.Goals as goal

-- the lines of what is left
abbrev lines_left : List (Bor (List ℕ)) → List (Option (Vec ℕ Global)) → Text
lines_left names values = value_lines (map (λ n. n.now) names) (map value_shown values)

-- with the lines of the next variable
one_more : (now next all : Text) (names left : List (Bor (List ℕ))) (values rest : List (Option (Vec ℕ Global))) (name : Bor (List ℕ)) (value : Option (Vec ℕ Global)) → names ≡ name ∷ left → values ≡ value ∷ rest
    → next ≡ now ++ flat_map line (value_texts name.now (value_shown value)) → now ++ lines_left names values ≡ all → next ++ lines_left left rest ≡ all
one_more now next all names left values rest name value first second more so =
    ap (λ (t : Text). t ++ lines_left left rest) more
    ∙ append_assoc now (flat_map line (value_texts name.now (value_shown value))) (lines_left left rest)
    ∙ sym (ap₂ (λ (ns : List (Bor (List ℕ))) (vs : List (Option (Vec ℕ Global))). now ++ lines_left ns vs) first second)
    ∙ so

-- where nothing is left of the names, or of the values
none_without_values : (names : List (Bor (List ℕ))) → lines_left names [] ≡ []
none_without_values [] = refl
none_without_values (name ∷ names) = refl

none_left : (names : List (Bor (List ℕ))) (values : List (Option (Vec ℕ Global))) → (names ≡ []) ⊎ (values ≡ []) → lines_left names values ≡ []
none_left names values (inl e) = ap (λ (ns : List (Bor (List ℕ))). lines_left ns values) e
none_left names values (inr e) = ap (lines_left names) e ∙ none_without_values names

pub loop-name-init : goal.loop-name-init
loop-name-init c =
    let first : iter_rest (zip_first c.into_iter-name-iterator.result) ≡ c.args.names.now = cc in
    let second : iter_rest (zip_second c.into_iter-name-iterator.result) ≡ c.args.values.now = cc in
    ap₂ (λ (ns : List (Bor (List ℕ))) (vs : List (Option (Vec ℕ Global))). c.args.text.now.items ++ lines_left ns vs) first second

pub loop-name-preserved : goal.loop-name-preserved
loop-name-preserved c =
    let more = Zip-more c.loop-name.name-iterator c.next.new.self c.next.result (c.in-Some.name, c.in-Some.value) c.in-Some.is c.next.ensures.steps in
    one_more c.loop-name.text.items c.put_value.new.text.items _ _ _ _ _ c.in-Some.name.now c.in-Some.value.now more.0 more.1 c.in_ok-put_value.ensures c.loop-name.invariant

pub returns : goal.returns
returns c =
    let empty = either_empty_from_Zip c.loop-name.name-iterator c.next.new.self c.next.result c.in-None.is c.next.ensures.steps in
    sym (ap (λ (t : Text). c.loop-name.text.items ++ t) (none_left _ _ empty) ∙ append-nil c.loop-name.text.items) ∙ c.loop-name.invariant
