-- What is read of a tree, by what the tree is made of.
use Rattle.std.proofs.Common.{◌≡◌, ℕ, zero, suc, ◌+◌, ◌<◌, ◌≤◌, Bool, List, [], ◌∷◌, length, map, take, get_or, Option, Some, None, Vec, refl, sym, ap, ◌∙◌, arith, add-one}
use Rattle.std.proofs.lemmas.List.{take_all}
use Rattle.std.specs.List.{fold}
use Rattle.std.specs.declared.alloc.Global.{Global}
use Rattle.std.specs.declared.rc.Rc.{Rc}
use Rattle.hushlang.specs.Tree as tree
use Rattle.hushlang.specs.TreesShown as view
use Rattle.hushlang.specs.declared.tree.Op.{Op}
use Rattle.hushlang.specs.declared.tree.Word.{Word}
use Rattle.hushlang.specs.declared.tree.AndOr.{AndOr}
use Rattle.hushlang.specs.declared.call.Call.{Call}
use Rattle.hushlang.specs.declared.tree.Command.{Command, Simple, Assign, If, Loop, For}
use Rattle.hushlang.specs.declared.tree.Script.{Script, out-Script}
use Rattle.hushlang.proofs.ViewLemmas.{script_out, list_of, command_simple, command_assign, command_loop, command_for, command_if}
use Rattle.hushcheck.specs.Calls.{Reading, after_value, after_word, set_name, skip, after_arm, after_arms, after_command, after_joined, after_list, after_script, after_words}

-- ---- items one after another

module _ {S X : Type 0} (f : S → X → S) where
  fold-upto : (s : S) (xs : List X) (i : ℕ) (d : X) → i < length xs → fold f s (take (suc i) xs) ≡ f (fold f s (take i xs)) (get_or xs i d)
  fold-upto s [] i d h = absurd (omega arith)
  fold-upto s (x ∷ xs) zero d h = refl
  fold-upto s (x ∷ xs) (suc i) d h = fold-upto (f s x) xs i d (omega arith)

  -- one more item
  pub fold_item : (s now next : S) (xs : List X) (i : ℕ) (x : X) → i < length xs → x ≡ get_or xs i x → now ≡ fold f s (take i xs) → next ≡ f now x → next ≡ fold f s (take (i + 1) xs)
  fold_item s now next xs i x within is before e =
      let one : f (fold f s (take i xs)) x ≡ fold f s (take (i + 1) xs) = ap (f (fold f s (take i xs))) is ∙ sym (rw add-one (fold-upto s xs i x within)) in
      e ∙ ap (λ r. f r x) before ∙ one

  -- all items
  pub fold_all : (s now : S) (xs : List X) (i : ℕ) → length xs ≤ i → now ≡ fold f s (take i xs) → now ≡ fold f s xs
  fold_all s now xs i past e = e ∙ ap (fold f s) (take_all i xs past)

pub fold_map : {S X Y : Type 0} (f : S → Y → S) (g : X → Y) (s : S) (xs : List X) → fold (λ r x. f r (g x)) s xs ≡ fold f s (map g xs)
fold_map f g s [] = refl
fold_map f g s (x ∷ xs) = fold_map f g (f s (g x)) xs

-- ---- trees

read_runs : (r : Reading) (lists : List AndOr) → after_script r (view.runs (map view.list lists)) ≡ fold (λ q l. after_list q (view.list l)) r lists
read_runs r [] = refl
read_runs r (l ∷ lists) = read_runs (after_list r (view.list l)) lists

-- a script, by its lists
pub by_lists : (r : Reading) (s : Script) (lists : List AndOr) → lists ≡ (out-Script s).lists.items → fold (λ q l. after_list q (view.list l)) r lists ≡ after_script r (view.script s)
by_lists r s lists e = sym (ap (after_script r) (script_out s) ∙ ap (λ ls. after_script r (view.runs (map view.list ls))) (sym e) ∙ read_runs r lists)

read_joins : (r : Reading) (rest : List (Op × Command)) → after_joined r (view.joins (map view.joined rest)) ≡ fold (λ q p. after_command q (view.command p.1)) r rest
read_joins r [] = refl
read_joins r (p ∷ rest) = read_joins (after_command r (view.command p.1)) rest

-- a list, by its commands
pub by_commands : (r : Reading) (l : AndOr) (rest : List (Op × Command)) → rest ≡ l.rest.items → fold (λ q p. after_command q (view.command p.1)) (after_command r (view.command l.first)) rest ≡ after_list r (view.list l)
by_commands r l rest e = sym (ap (after_list r) (list_of l.first l.rest) ∙ ap (λ ps. after_joined (after_command r (view.command l.first)) (view.joins (map view.joined ps))) (sym e) ∙ read_joins (after_command r (view.command l.first)) rest)

pub by_words : (r : Reading) (c : Command) (call : Call) (all : List Word) → c ≡ Simple call → map view.word all ≡ view.call call → after_words r (map view.word all) ≡ after_command r (view.command c)
by_words r c call all e is = ap (after_words r) is ∙ sym (ap (λ x. after_command r (view.command x)) e ∙ ap (after_command r) (command_simple call))

pub by_values : (r : Reading) (c : Command) (values : Vec (Vec ℕ Global × Word) Global) → c ≡ Assign values → fold after_value r (map view.value values.items) ≡ after_command r (view.command c)
by_values r c values e = sym (ap (λ x. after_command r (view.command x)) e ∙ ap (after_command r) (command_assign values))

pub by_loop : (r : Reading) (c : Command) (until : Bool) (cond body : Rc Script Global) → c ≡ Loop until cond body → skip 1 (after_arm r (view.script cond.value, view.script body.value)) ≡ after_command r (view.command c)
by_loop r c until cond body e = sym (ap (λ x. after_command r (view.command x)) e ∙ ap (after_command r) (command_loop until cond body))

pub by_for : (r : Reading) (c : Command) (name : Vec ℕ Global) (words : Vec Word Global) (body : Rc Script Global) → c ≡ For name words body → skip 1 (after_script (skip 1 (fold after_word (skip 3 (set_name name.items r)) (map view.word words.items))) (view.script body.value)) ≡ after_command r (view.command c)
by_for r c name words body e = sym (ap (λ x. after_command r (view.command x)) e ∙ ap (after_command r) (command_for name words body))

abbrev pub after_other : Reading → Option tree.Script → Reading
after_other r None = r
after_other r (Some body) = after_script (skip 1 r) body

read_all : (r : Reading) (arms : List (tree.Script × tree.Script)) (other : Option tree.Script) → after_arms r (view.arms arms other) ≡ after_other (fold after_arm r arms) other
read_all r [] None = refl
read_all r [] (Some body) = refl
read_all r (arm ∷ arms) other = read_all (after_arm r arm) arms other

-- an `if`, by its arms
pub by_arms : (r : Reading) (c : Command) (arms : Vec (Rc Script Global × Rc Script Global) Global) (other : Option (Rc Script Global)) (all : List (Rc Script Global × Rc Script Global)) → c ≡ If arms other → all ≡ arms.items
    → skip 1 (after_other (fold after_arm r (map view.arm all)) (view.script_in other)) ≡ after_command r (view.command c)
by_arms r c arms other all e is =
    ap (λ a. skip 1 (after_other (fold after_arm r (map view.arm a)) (view.script_in other))) is
    ∙ sym (ap (λ x. after_command r (view.command x)) e ∙ ap (after_command r) (command_if arms other) ∙ ap (skip 1) (read_all r (map view.arm arms.items) (view.script_in other)))

-- the block after `else`
pub with_other : (a mid next : Reading) (s : Script) (body : Rc Script Global) (other : Option (Rc Script Global)) → other ≡ Some body → s ≡ body.value → mid ≡ skip 1 a → next ≡ after_script mid (view.script s) → next ≡ after_other a (view.script_in other)
with_other a mid next s body other e f first second =
    second ∙ ap (λ q. after_script q (view.script s)) first ∙ ap (λ x. after_script (skip 1 a) (view.script x)) f ∙ ap (λ o. after_other a (view.script_in o)) (sym e)

pub without_other : (a : Reading) (other : Option (Rc Script Global)) → other ≡ None → a ≡ after_other a (view.script_in other)
without_other a other e = ap (λ o. after_other a (view.script_in o)) (sym e)

-- a condition and a block, each after a reserved word
pub two_scripts : (r a b c d : Reading) (s u x y : Script) → s ≡ x → u ≡ y → a ≡ skip 1 r → b ≡ after_script a (view.script s) → c ≡ skip 1 b → d ≡ after_script c (view.script u) → d ≡ after_arm r (view.script x, view.script y)
two_scripts r a b c d s u x y e f first second third last =
    last ∙ ap (λ q. after_script q (view.script u)) (third ∙ ap (skip 1) (second ∙ ap (λ q. after_script q (view.script s)) first))
    ∙ ap (λ z. after_script (skip 1 (after_script (skip 1 r) (view.script z))) (view.script u)) e
    ∙ ap (λ z. after_script (skip 1 (after_script (skip 1 r) (view.script x))) (view.script z)) f
