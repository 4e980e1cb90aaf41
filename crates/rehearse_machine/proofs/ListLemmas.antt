-- Lists of the program's tree, by what they say.
use Rattle.std.proofs.Common.{ℕ, zero, suc, ◌-◌, true, false, List, [], ◌∷◌, map, length, get_or, Option, Some, None, refl, sym, ap, ◌∙◌, ◌≡◌, ◌<◌, ◌≤◌, arith}
use Rattle.std.specs.Prelude.{slice_get}
use Rattle.std.proofs.lemmas.Option.{slice_get_read, slice_get_past}
use Rattle.hushlang.specs.declared.tree.Op.{Op}
use Rattle.hushlang.specs.declared.tree.AndOr.{AndOr as ListCode}
use Rattle.hushlang.specs.declared.tree.Command.{Command as CommandCode}
use Rattle.hushlang.specs.Tree as tree
use Rattle.hushlang.specs.Tree.{AndOr, Command}
use Rattle.hushlang.specs.TreesShown as view
use Rattle.hushlang.proofs.ViewLemmas.{list_of}
use Rattle.bootstore_state.specs.declared.frame.At.{At}
use Rattle.bootstore_state.specs.Moment.{RunningFrame}
use Rattle.rehearse_terms.specs.State.{State}
use Rattle.rehearse_rules.specs.Execution.{Limits, goes}
use Rattle.rehearse_machine.specs.Places.{GoOn, joined_at, place, moved_to, behind, place_command, place_joined, place_skipped, place_begins}
use Rattle.rehearse_machine.proofs.Beginnings.{chosen, passed}
use Rattle.rehearse_rules.specs.ByShell.{skips_rest}

abbrev pub Join : Type 0
Join = Op × CommandCode

pub join_some : (items : List Join) (j : ℕ) (p : Join) → slice_get items j ≡ Some p → joined_at (view.joins (map view.joined items)) j ≡ Some (p.0, view.command p.1)
join_some [] j p e = absurd (let f = e in cc)
join_some (x ∷ xs) zero p e = let f : x ≡ p = (let g = e in cc) in ap (λ (y : Join). Some (y.0, view.command y.1)) f
join_some (x ∷ xs) (suc j) p e = join_some xs j p e

pub join_none : (items : List Join) (j : ℕ) → slice_get items j ≡ None → joined_at (view.joins (map view.joined items)) j ≡ None
join_none [] j e = refl
join_none (x ∷ xs) zero e = absurd (let f = e in cc)
join_none (x ∷ xs) (suc j) e = join_none xs j e

-- a place that is not the first, counted from the one before it
pub back : (n : ℕ) → (n ≡ 0 → ⊥) → n ≡ suc (n - 1)
back zero h = absurd (h refl)
back (suc n) h = omega arith

module _ (limits : Limits) (l : ListCode) (n : ℕ) (f : RunningFrame) (fs : List RunningFrame) (s : State) where
  says : view.list l ≡ tree.Starts (view.command l.first) (view.joins (map view.joined l.rest.items))
  says = list_of l.first l.rest

  pub first_begins : n ≡ 0 → place_command limits (view.command l.first) f fs s ≡ place_begins limits (view.list l) n f fs s
  first_begins e = sym (ap (λ (m : ℕ). place_begins limits (view.list l) m f fs s) e ∙ ap (λ (x : AndOr). place_begins limits x 0 f fs s) says)

  later : (m j : ℕ) → m ≡ suc j → place_begins limits (view.list l) m f fs s ≡ place_joined limits (joined_at (view.joins (map view.joined l.rest.items)) j) f fs s
  later m j e = ap (λ (k : ℕ). place_begins limits (view.list l) k f fs s) e ∙ ap (λ (x : AndOr). place_begins limits x (suc j) f fs s) says

  -- what is joined, if the items are known by another name
  module _ (items : List Join) (same : items ≡ l.rest.items) (h : n ≡ 0 → ⊥) where
    joined_on : (o : Option (Op × Command)) → joined_at (view.joins (map view.joined items)) (n - 1) ≡ o → place_joined limits o f fs s ≡ place_begins limits (view.list l) n f fs s
    joined_on o e =
        sym (later n (n - 1) (back n h) ∙ ap (λ (x : List Join). place_joined limits (joined_at (view.joins (map view.joined x)) (n - 1)) f fs s) (sym same)
        ∙ ap (λ (x : Option (Op × Command)). place_joined limits x f fs s) e)

    pub list_ends : (at : At) → length items ≤ n - 1 → at ≡ place (suc f.place.list) 0 0 0 → GoOn (moved_to at f ∷ fs) s ≡ place_begins limits (view.list l) n f fs s
    list_ends at k e = ap (λ (x : At). GoOn (moved_to x f ∷ fs) s) e ∙ joined_on None (join_none items (n - 1) (slice_get_past items (n - 1) k))

    module _ (p : Join) (k : n - 1 < length items) (e : p ≡ get_or items (n - 1) p) where
      found : place_joined limits (Some (p.0, view.command p.1)) f fs s ≡ place_begins limits (view.list l) n f fs s
      found = joined_on (Some (p.0, view.command p.1)) (join_some items (n - 1) p (slice_get_read items (length items) (n - 1) p refl k e))

      pub join_begins : goes p.0 s.memory.status ≡ true → place_command limits (view.command p.1) f fs s ≡ place_begins limits (view.list l) n f fs s
      join_begins t = chosen (goes p.0 s.memory.status) (place_command limits (view.command p.1) f fs s) (place_skipped limits f fs s) t ∙ found

      -- the frame goes on after a command that is skipped, or after its list
      pub join_skipped : (at : At) → goes p.0 s.memory.status ≡ false → GoOn (moved_to at f ∷ fs) s ≡ place_skipped limits f fs s → GoOn (moved_to at f ∷ fs) s ≡ place_begins limits (view.list l) n f fs s
      join_skipped at t q =
          q ∙ passed (goes p.0 s.memory.status) (place_command limits (view.command p.1) f fs s) (place_skipped limits f fs s) t
          ∙ found

pub skips_one : (limits : Limits) (f : RunningFrame) (fs : List RunningFrame) (s : State) (at : At) → skips_rest limits.shell ≡ false → at ≡ place f.place.list (suc f.place.command) 0 0 → GoOn (moved_to at f ∷ fs) s ≡ place_skipped limits f fs s
skips_one limits f fs s at e q = ap (λ (x : At). GoOn (moved_to x f ∷ fs) s) q ∙ passed (skips_rest limits.shell) (GoOn (moved_to (place (suc f.place.list) 0 0 0) f ∷ fs) s) (GoOn (behind f ∷ fs) s) e

pub skips_list : (limits : Limits) (f : RunningFrame) (fs : List RunningFrame) (s : State) (at : At) → skips_rest limits.shell ≡ true → at ≡ place (suc f.place.list) 0 0 0 → GoOn (moved_to at f ∷ fs) s ≡ place_skipped limits f fs s
skips_list limits f fs s at e q = ap (λ (x : At). GoOn (moved_to x f ∷ fs) s) q ∙ chosen (skips_rest limits.shell) (GoOn (moved_to (place (suc f.place.list) 0 0 0) f ∷ fs) s) (GoOn (behind f ∷ fs) s) e
