-- The commands that hold blocks, by the parts of the program's tree.
use Rattle.std.proofs.Common.{ℕ, zero, suc, Bool, true, false, List, [], ◌∷◌, map, length, get_or, Option, Some, None, refl, sym, ap, ◌∙◌, ◌≡◌, ◌<◌, ◌≤◌, nat_eq}
use Rattle.std.specs.Prelude.{slice_get}
use Rattle.std.proofs.Math.Dec.{eqb-suc-zero}
use Rattle.std.proofs.lemmas.Option.{slice_get_read, slice_get_past}
use Rattle.std.specs.declared.alloc.Global.{Global}
use Rattle.std.specs.declared.rc.Rc.{Rc}
use Rattle.hushlang.specs.declared.tree.Script.{Script as Code}
use Rattle.hushlang.specs.Tree as tree
use Rattle.hushlang.specs.Tree.{Script, Arms}
use Rattle.hushlang.specs.TreesShown as view
use Rattle.bootstore_state.specs.declared.frame.At.{At}
use Rattle.bootstore_state.specs.Moment.{RunningFrame}
use Rattle.rehearse_terms.specs.State.{State}
use Rattle.rehearse_rules.specs.Execution.{set_status, block_skipped}
use Rattle.rehearse_machine.specs.Places.{GoOn, drop_arms, place, moved_to, block_frame, place_arms, condition_ends, behind, under_block, with_block}
use Rattle.rehearse_terms.specs.declared.shell.Shell.{Shell}
use Rattle.rehearse_rules.specs.ByShell.{status_of_no_block}

abbrev pub Arm : Type 0
Arm = Rc Code Global × Rc Code Global

some_arm : (list : List Arm) (o : Option Script) (a : ℕ) (p : Arm) → slice_get list a ≡ Some p → drop_arms a (view.arms (map view.arm list) o) ≡ tree.Arm (view.script p.0.value) (view.script p.1.value) (drop_arms (suc a) (view.arms (map view.arm list) o))
some_arm [] o a p e = absurd (let f = e in cc)
some_arm (x ∷ xs) o zero p e = let f : x ≡ p = (let g = e in cc) in ap (λ (y : Arm). tree.Arm (view.script y.0.value) (view.script y.1.value) (view.arms (map view.arm xs) o)) f
some_arm (x ∷ xs) o (suc a) p e = some_arm xs o a p e

no_arm : (list : List Arm) (o : Option Script) (a : ℕ) → slice_get list a ≡ None → drop_arms a (view.arms (map view.arm list) o) ≡ view.arms [] o
no_arm [] None zero e = refl
no_arm [] None (suc a) e = refl
no_arm [] (Some b) zero e = refl
no_arm [] (Some b) (suc a) e = refl
no_arm (x ∷ xs) o zero e = absurd (let f = e in cc)
no_arm (x ∷ xs) o (suc a) e = no_arm xs o a e

module _ (shell : Shell) (list : List Arm) (o : Option Script) (a : ℕ) (f : RunningFrame) (fs : List RunningFrame) (at : At) (s : State) where
  abbrev arms : Arms
  arms = drop_arms a (view.arms (map view.arm list) o)

  pub arm_entered : (p : Arm) (child : RunningFrame) → a < length list → p ≡ get_or list a p → child ≡ block_frame (view.script p.0.value) → at ≡ place f.place.list f.place.command (suc a) 0 → GoOn (child ∷ moved_to at f ∷ fs) s ≡ place_arms shell arms a f fs s
  arm_entered p child l r e k =
      ap (λ (x : RunningFrame). GoOn (x ∷ moved_to at f ∷ fs) s) e ∙ ap (λ (x : At). GoOn (block_frame (view.script p.0.value) ∷ moved_to x f ∷ fs) s) k
      ∙ sym (ap (λ (x : Arms). place_arms shell x a f fs s) (some_arm list o a p (slice_get_read list (length list) a p refl l r)))

  pub other_entered : (b : Script) (child : RunningFrame) → o ≡ Some b → length list ≤ a → child ≡ block_frame b → at ≡ under_block shell f.place → GoOn (child ∷ moved_to at f ∷ fs) s ≡ place_arms shell arms a f fs s
  other_entered b child p l e k =
      ap (λ (x : RunningFrame). GoOn (x ∷ moved_to at f ∷ fs) s) e ∙ ap (λ (x : At). GoOn (block_frame b ∷ moved_to x f ∷ fs) s) k
      ∙ sym (ap (λ (x : Arms). place_arms shell x a f fs s) (no_arm list o a (slice_get_past list a l) ∙ ap (view.arms []) p))

  pub none_entered : (n : ℕ) → n ≡ status_of_no_block shell s.memory.status → o ≡ None → length list ≤ a → at ≡ place f.place.list (suc f.place.command) 0 0 → GoOn (moved_to at f ∷ fs) (set_status n s) ≡ place_arms shell arms a f fs s
  none_entered n same p l k =
      ap (λ (x : At). GoOn (moved_to x f ∷ fs) (set_status n s)) k ∙ ap (λ (x : ℕ). GoOn (behind f ∷ fs) (set_status x s)) same
      ∙ sym (ap (λ (x : Arms). place_arms shell x a f fs s) (no_arm list o a (slice_get_past list a l) ∙ ap (view.arms []) p))

  -- after the condition of an arm has ended
  condition_true : (b : Bool) (c d : Script) (more : Arms) → b ≡ true → GoOn (block_frame d ∷ with_block shell f ∷ fs) s ≡ elim b [ true ↦ GoOn (block_frame d ∷ with_block shell f ∷ fs) s | false ↦ place_arms shell more (suc a) f fs (block_skipped shell d s) ]
  condition_true true c d more e = refl
  condition_true false c d more e = absurd (let g = e in cc)

  condition_false : (b : Bool) (d : Script) (more : Arms) → b ≡ false → place_arms shell more (suc a) f fs (block_skipped shell d s) ≡ elim b [ true ↦ GoOn (block_frame d ∷ with_block shell f ∷ fs) s | false ↦ place_arms shell more (suc a) f fs (block_skipped shell d s) ]
  condition_false true d more e = absurd (let g = e in cc)
  condition_false false d more e = refl

  pub block_entered : (p : Arm) (child : RunningFrame) → a < length list → p ≡ get_or list a p → nat_eq s.memory.status 0 ≡ true → child ≡ block_frame (view.script p.1.value) → at ≡ under_block shell f.place → GoOn (child ∷ moved_to at f ∷ fs) s ≡ condition_ends shell arms a f fs s
  block_entered p child l r t e k =
      ap (λ (x : RunningFrame). GoOn (x ∷ moved_to at f ∷ fs) s) e ∙ ap (λ (x : At). GoOn (block_frame (view.script p.1.value) ∷ moved_to x f ∷ fs) s) k
      ∙ condition_true (nat_eq s.memory.status 0) (view.script p.0.value) (view.script p.1.value) (drop_arms (suc a) (view.arms (map view.arm list) o)) t
      ∙ sym (ap (λ (x : Arms). condition_ends shell x a f fs s) (some_arm list o a p (slice_get_read list (length list) a p refl l r)))

  pub next_arm : (p : Arm) → a < length list → p ≡ get_or list a p → nat_eq s.memory.status 0 ≡ false → place_arms shell (drop_arms (suc a) (view.arms (map view.arm list) o)) (suc a) f fs (block_skipped shell (view.script p.1.value) s) ≡ condition_ends shell arms a f fs s
  next_arm p l r t =
      condition_false (nat_eq s.memory.status 0) (view.script p.1.value) (drop_arms (suc a) (view.arms (map view.arm list) o)) t
      ∙ sym (ap (λ (x : Arms). condition_ends shell x a f fs s) (some_arm list o a p (slice_get_read list (length list) a p refl l r)))

  pub past_arms : length list ≤ a → at ≡ place f.place.list (suc f.place.command) 0 0 → GoOn (moved_to at f ∷ fs) s ≡ condition_ends shell arms a f fs s
  past_arms l k =
      ap (λ (x : At). GoOn (moved_to x f ∷ fs) s) k ∙ none o ∙ sym (ap (λ (x : Arms). condition_ends shell x a f fs s) (no_arm list o a (slice_get_past list a l)))
    where
      none : (o : Option Script) → GoOn (behind f ∷ fs) s ≡ condition_ends shell (view.arms [] o) a f fs s
      none None = refl
      none (Some b) = refl

pub not_zero : (n : ℕ) → (n ≡ 0 → ⊥) → nat_eq n 0 ≡ false
not_zero zero h = absurd (h refl)
not_zero (suc n) h = eqb-suc-zero n
