-- Two lists that are read side by side.
use Rattle.std.proofs.Common.{ℕ, suc, drop, ◌≤◌, ◌<◌, List, ◌∷◌, ◌++◌, take, get_or, length, sym, ap, ◌∙◌, ◌≡◌, Bool, ◌==◌, IsTrue}
use Rattle.std.proofs.lemmas.List.{take-append-drop, append_cancel_left, drop_all}
use Rattle.std.proofs.Math.Seq.{drop-cons}

same_rest : {X : Type 0} (all items others : List X) (i : ℕ) → all ≡ take i items ++ others → items ≡ all → drop i items ≡ others
same_rest all items others i inv h = append_cancel_left (take i items) (drop i items) others (take-append-drop i items ∙ h ∙ inv)

first_same : {Y : Type 0} (x y : Y) (xs ys : List Y) → x ∷ xs ≡ y ∷ ys → x ≡ y
first_same x y xs ys e = cc

pub told_step : {X : Type 0} (all items others more : List X) (i : ℕ) (x y : X) → i < length items → x ≡ get_or items i x → all ≡ take i items ++ others → others ≡ y ∷ more → items ≡ all → x ≡ y
told_step all items others more i x y lt is inv split h =
    is ∙ first_same (get_or items i x) y (drop (suc i) items) more (sym (drop-cons items i x lt) ∙ same_rest all items others i inv h ∙ split)

pub told_end : {X : Type 0} (all items others : List X) (i : ℕ) (b : Bool) → length items ≤ i → all ≡ take i items ++ others → b ≡ (length others == 0) → items ≡ all → IsTrue b
told_end all items others i b le inv e h = e ∙ ap (λ l. length l == 0) (sym (same_rest all items others i inv h) ∙ drop_all i items le)
