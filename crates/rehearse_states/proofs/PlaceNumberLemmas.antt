-- Numbers of scripts.
use Rattle.std.proofs.Common.{ℕ, suc, List, [], ◌∷◌, map, length, refl, sym, ap, ◌∙◌, ◌≡◌, Vec}
use Rattle.std.proofs.lemmas.List.{length-map}
use Rattle.std.specs.declared.alloc.Global.{Global}
use Rattle.hushlang.specs.Tree as tree
use Rattle.hushlang.specs.TreesShown as view
use Rattle.hushlang.specs.declared.tree.Op.{Op}
use Rattle.hushlang.specs.declared.tree.AndOr.{AndOr}
use Rattle.hushlang.proofs.ViewLemmas.{list_of}
use Rattle.rehearse_states.specs.PlaceNumbers.{mixed, mixed_command, mixed_list, mixed_script, how_many_joined, how_many_lists}

joined_counted : (xs : List (Op × tree.Command)) → how_many_joined (view.joins xs) ≡ length xs
joined_counted [] = refl
joined_counted (x ∷ xs) = ap suc (joined_counted xs)

lists_counted : (xs : List tree.AndOr) → how_many_lists (view.runs xs) ≡ length xs
lists_counted [] = refl
lists_counted (x ∷ xs) = ap suc (lists_counted xs)

pub list_number : (number : ℕ) (l : AndOr) → mixed_list number (view.list l) ≡ mixed_command (mixed number (length l.rest.items)) (view.command l.first)
list_number number l =
    ap (mixed_list number) (list_of l.first l.rest)
    ∙ ap (λ (n : ℕ). mixed_command (mixed number n) (view.command l.first)) (joined_counted (map view.joined l.rest.items) ∙ length-map l.rest.items view.joined)

pub first_number : (number : ℕ) (first : AndOr) (rest : List AndOr) → mixed_script number (view.runs (map view.list (first ∷ rest))) ≡ mixed_list (mixed number (length (first ∷ rest))) (view.list first)
first_number number first rest =
    ap (λ (n : ℕ). mixed_list (mixed number (suc n)) (view.list first)) (lists_counted (map view.list rest) ∙ length-map rest view.list)

pub no_number : (number : ℕ) (lists : List AndOr) → length lists ≡ 0 → mixed number (length lists) ≡ mixed_script number (view.runs (map view.list lists))
no_number number [] e = refl
no_number number (list ∷ lists) e = absurd (let f = e in cc)
