-- Short values by the names of their variables: what is looked up, and one more.
use Rattle.std.proofs.Common.{◌≡◌, refl, sym, subst, ℕ, Bool, true, false, cond, List, [], ◌∷◌, Option, Some}
use Rattle.std.specs.FinMap.{nat_cmp-IsAntisymmetric, slice_cmp-IsAntisymmetric}
use Rattle.std.specs.declared.cmp.Ordering.{Ordering}
use Rattle.std.specs.declared.cmp.Ordering.TheVariants.{Less, Equal, Greater}
use Rattle.std.specs.Ordering.{nat_cmp, is_eq, match_ordering}
use Rattle.std.specs.Cmp.Lexicographic.{slice_cmp}
use Rattle.std.specs.Map.{lookup}
use Rattle.std.specs.BTreeMap.{insert_entry}
use Rattle.std.specs.declared.alloc.Global.{Global}
use Rattle.std.specs.declared.vec.Vec.{Vec}
use Rattle.std.specs.Cmp.{Equal-is}
use Rattle.hushlang.specs.Expansion.{Parameters, value_of}
use Rattle.hushlang.specs.Splitting.{AreCutAlike, IsBrief, AreShort}

-- a value is short for a name
abbrev pub IsShort : Parameters → List ℕ → List ℕ → Type 0
IsShort parameters name short = AreCutAlike (value_of parameters name) short × IsBrief short

abbrev pub Entries : Type 0
Entries = List (Vec ℕ Global × Vec ℕ Global)

-- how a name compares to a key
abbrev pub compared : List ℕ → Vec ℕ Global → Ordering
compared name key = slice_cmp nat_cmp name key.items

same_name : (name other : List ℕ) → slice_cmp nat_cmp name other ≡ Equal → name ≡ other
same_name name other is = slice_cmp-IsAntisymmetric nat_cmp-IsAntisymmetric name other is

found_at : (parameters : Parameters) (entry : Vec ℕ Global × Vec ℕ Global) (name : List ℕ) (short : Vec ℕ Global) (more : Option (Vec ℕ Global)) → IsShort parameters entry.0.items entry.1.items → (Some short ≡ more → IsShort parameters name short.items) → (b : Bool) → is_eq (compared name entry.0) ≡ b → Some short ≡ cond b (Some entry.1) more → IsShort parameters name short.items
found_at parameters entry name short more here rest true same is =
    let value : entry.1 ≡ short = cc in
    subst (λ n. IsShort parameters n short.items) (sym (same_name name entry.0.items ((Equal-is _).0 same))) (subst (λ (v : Vec ℕ Global). IsShort parameters entry.0.items v.items) value here)
found_at parameters entry name short more here rest false same is = rest is

pub short_found : (parameters : Parameters) (entries : Entries) (name : List ℕ) (short : Vec ℕ Global) → AreShort parameters entries → Some short ≡ lookup (λ key. is_eq (compared name key)) entries → IsShort parameters name short.items
short_found parameters [] name short all is = cc
short_found parameters (entry ∷ entries) name short all is =
    found_at parameters entry name short (lookup (λ key. is_eq (compared name key)) entries) (all.0, all.1) (short_found parameters entries name short all.2) (is_eq (compared name entry.0)) refl is

pub short_added : (parameters : Parameters) (entries : Entries) (key short : Vec ℕ Global) → AreShort parameters entries → IsShort parameters key.items short.items → AreShort parameters (insert_entry (λ k. compared k.items) entries key short)
short_added parameters [] key short all is = (is.0, is.1, tt)
short_added parameters (entry ∷ entries) key short all is = at (short_added parameters entries key short all.2 is) (compared key.items entry.0) refl
  where
    at : AreShort parameters (insert_entry (λ k. compared k.items) entries key short) → (r : Ordering) → compared key.items entry.0 ≡ r → AreShort parameters (match_ordering r ((key, short) ∷ entry ∷ entries) ((entry.0, short) ∷ entries) (entry ∷ insert_entry (λ k. compared k.items) entries key short))
    at more Less order = (is.0, is.1, all)
    at more Equal order =
        let here : IsShort parameters entry.0.items short.items = subst (λ n. IsShort parameters n short.items) (same_name key.items entry.0.items order) is in
        (here.0, here.1, all.2)
    at more Greater order = (all.0, all.1, more)
