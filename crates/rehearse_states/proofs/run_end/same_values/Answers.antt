use Rattle.std.proofs.Common.{◌≡◌, ◌∙◌, ℕ, ◌+◌, suc, Bool, true, false, ◌&&◌, List, [], ◌∷◌, Option, Vec, Global, length, map, ap, ap₂, arith, refl, sym}
use Rattle.std.proofs.lemmas.Iterator.{empty_from_Zip}
use Rattle.std.proofs.lemmas.Slice.Zip.{Zip-more}
use Rattle.std.specs.Iterator.Adapters.{zip_first, zip_second}
use Rattle.std.specs.Slice.Iter.{iter_rest}
use Rattle.rehearse_states.specs.Endings.{value_eq, values_eq}
use Rattle.rehearse_states.specs.RowsShown.{value_shown}
use Rattle.rehearse_states.proofs.run_end.same_values.Goals as goal

abbrev are_same : List (Option (Vec ℕ Global)) → List (Option (Vec ℕ Global)) → Bool
are_same xs ys = values_eq (map value_shown xs) (map value_shown ys)

-- of two lists that are not equally long
and_false : (b other : Bool) → false ≡ other → false ≡ b && other
and_false true other e = e
and_false false other e = refl

unlike : (xs ys : List (Option (Vec ℕ Global))) → (length xs ≡ length ys → ⊥) → false ≡ are_same xs ys
unlike [] [] differ = absurd (differ refl)
unlike [] (y ∷ ys) differ = refl
unlike (x ∷ xs) [] differ = refl
unlike (x ∷ xs) (y ∷ ys) differ = and_false (value_eq (value_shown x) (value_shown y)) (are_same xs ys) (unlike xs ys (λ e. differ (ap suc e)))

-- after two values that are the same
behind_same : (xs ys left rest : List (Option (Vec ℕ Global))) (x y : Option (Vec ℕ Global)) (all : Bool) → xs ≡ x ∷ left → ys ≡ y ∷ rest → true ≡ value_eq (value_shown x) (value_shown y) → (length xs ≡ length ys) × (all ≡ are_same xs ys)
    → (length left ≡ length rest) × (all ≡ are_same left rest)
behind_same xs ys left rest x y all first second same so =
    let long : suc (length left) ≡ suc (length rest) = sym (ap length first) ∙ so.0 ∙ ap length second in
    (omega (arith, long), so.1 ∙ ap₂ are_same first second ∙ ap (λ b. b && are_same left rest) (sym same))

-- after two values that are not
behind_other : (xs ys left rest : List (Option (Vec ℕ Global))) (x y : Option (Vec ℕ Global)) (all : Bool) → xs ≡ x ∷ left → ys ≡ y ∷ rest → false ≡ value_eq (value_shown x) (value_shown y) → all ≡ are_same xs ys → false ≡ all
behind_other xs ys left rest x y all first second other so = sym (so ∙ ap₂ are_same first second ∙ ap (λ b. b && are_same left rest) (sym other))

pub returns-then-a-b : goal.returns-then-a-b
returns-then-a-b c = unlike c.args.a.now c.args.b.now c.if-a-b.true

pub loop-x-init : goal.loop-x-init
loop-x-init c =
    let first : iter_rest (zip_first c.into_iter-x-iterator.result) ≡ c.args.a.now = cc in
    let second : iter_rest (zip_second c.into_iter-x-iterator.result) ≡ c.args.b.now = cc in
    (ap length first ∙ c.if-a-b.false ∙ sym (ap length second), sym (ap₂ are_same first second))

pub loop-x-preserved : goal.loop-x-preserved
loop-x-preserved c =
    let more = Zip-more c.loop-x.x-iterator c.next.new.self c.next.result (c.in-Some.x, c.in-Some.y) c.in-Some.is c.next.ensures.steps in
    behind_same _ _ _ _ c.in-Some.x.now c.in-Some.y.now _ more.0 more.1 c.if-not-same_value.ensures c.loop-x.invariant

pub returns-then-not-same_value : goal.returns-then-not-same_value
returns-then-not-same_value c =
    let more = Zip-more c.loop-x.x-iterator c.next.new.self c.next.result (c.in-Some.x, c.in-Some.y) c.in-Some.is c.next.ensures.steps in
    behind_other _ _ _ _ c.in-Some.x.now c.in-Some.y.now _ more.0 more.1 c.if-not-same_value.ensures c.loop-x.invariant.1

pub returns : goal.returns
returns c =
    let empty = empty_from_Zip c.loop-x.x-iterator c.next.new.self c.next.result c.in-None.is c.next.ensures.steps c.loop-x.invariant.0 in
    sym (c.loop-x.invariant.1 ∙ ap₂ are_same empty.0 empty.1)
