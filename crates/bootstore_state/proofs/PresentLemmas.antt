-- The frames and the variables of a present state.
use Rattle.std.proofs.Common.{◌≡◌, ℕ, ◌-◌, ◌<◌, Bool, true, false, cond, List, [], ◌∷◌, ◌++◌, length, length-append, get_or, set, reverse, refl, sym, ap, subst, ◌∙◌, arith}
use Rattle.std.specs.Ordering.{nat_cmp, is_eq}
use Rattle.std.specs.Cmp.Lexicographic.{slice_cmp}
use Rattle.std.proofs.lemmas.List.{reverse-append, length-reverse, reverse-reverse}
use Rattle.bootstore_state.specs.declared.table.Table.{Table}
use Rattle.bootstore_state.specs.declared.frame.At.{At}
use Rattle.bootstore_state.specs.Moment.{Bytes, RunningFrame}
use Rattle.bootstore_state.specs.Record.{moved}
use Rattle.bootstore_state.specs.Table.{IsWith, last_kept, KeepsNothing}

-- the list without its last element, reversed
pub reverse-push : {A : Type 0} (xs : List A) (x : A) → reverse (xs ++ x ∷ []) ≡ x ∷ reverse xs
reverse-push xs x = reverse-append xs (x ∷ [])

pub get_last : (ys : List RunningFrame) (x d : RunningFrame) → get_or (ys ++ x ∷ []) (length ys) d ≡ x
get_last [] x d = refl
get_last (y ∷ ys) x d = get_last ys x d

pub set_last : (ys : List RunningFrame) (x z : RunningFrame) → set (ys ++ x ∷ []) (length ys) z ≡ ys ++ z ∷ []
set_last [] x z = refl
set_last (y ∷ ys) x z = ap (λ zs. y ∷ zs) (set_last ys x z)

-- the last frame, which is the innermost one, is moved
pub moved_last : (place : At) (xs : List RunningFrame) (n : ℕ) (d : RunningFrame) → n ≡ length xs → 0 < n → reverse (set xs (n - 1) (record (get_or xs (n - 1) d) { place = place })) ≡ moved place (reverse xs)
moved_last place xs n d count some = split (reverse xs) refl
  where
    split : (zs : List RunningFrame) → reverse xs ≡ zs → reverse (set xs (n - 1) (record (get_or xs (n - 1) d) { place = place })) ≡ moved place (reverse xs)
    split [] e = absurd (let h = length-reverse xs in let k = ap length e in omega arith)
    split (z ∷ zs) e =
        let ys = reverse zs in
        let whole : xs ≡ ys ++ z ∷ [] = sym (reverse-reverse xs) ∙ ap reverse e ∙ reverse-append (z ∷ []) zs in
        let k : n - 1 ≡ length ys = (let h = ap length whole in let g = length-append ys (z ∷ []) in omega arith) in
        subst (λ w. reverse (set w (n - 1) (record (get_or w (n - 1) d) { place = place })) ≡ moved place (reverse w)) (sym whole)
        (subst (λ m. reverse (set (ys ++ z ∷ []) m (record (get_or (ys ++ z ∷ []) m d) { place = place })) ≡ moved place (reverse (ys ++ z ∷ []))) (sym k)
        (ap (λ f. reverse (set (ys ++ z ∷ []) (length ys) (record f { place = place }))) (get_last ys z d)
        ∙ ap reverse (set_last ys z (record z { place = place }))
        ∙ reverse-push ys (record z { place = place })
        ∙ sym (ap (moved place) (reverse-push ys z))))

-- If nothing is kept of any name, giving a name the count 0 keeps it so.
pub nothing_with : (old new : Table) (name : Bytes) → KeepsNothing old → IsWith (last_kept old) name 0 (last_kept new) → KeepsNothing new
nothing_with old new name none e = λ q. e q ∙ at q (is_eq (slice_cmp nat_cmp q name))
  where
    at : (q : Bytes) (b : Bool) → cond b 0 (last_kept old q) ≡ 0
    at q true = refl
    at q false = none q
