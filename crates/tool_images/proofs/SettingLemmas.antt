-- A write to a pair that breaks off.
use Rattle.std.proofs.Common.{◌≡◌, ◌≤◌, ◌⊎◌, ℕ, Bool, true, false, List, Option, None, Some, Result, Ok, Err, refl, sym, subst, ◌∙◌, arith, inl, inr}
use Rattle.std.specs.Prelude.{nat_lt, Vec, IfOk}
use Rattle.std.specs.declared.alloc.Global.{Global}
use Rattle.std.proofs.lemmas.Bool.Decides.{nat_tests}
use Rattle.envimage.specs.Data.{Pair, pairs_of}
use Rattle.envimage.specs.Encoding.{needed}
use Rattle.envimage.specs.Image.{LoadedShown, is_right, load_of}
use Rattle.envimage.specs.declared.image.ByteOrder.{ByteOrder}
use Rattle.envimage.specs.declared.image.ImageError.{ImageError}
use Rattle.envimage.specs.declared.image.Which.{Which}
use Rattle.envimage.specs.declared.image.Which.TheVariants.{First, Second}
use Rattle.envtools.specs.Environment.{env_of}
use Rattle.envtools.specs.Saving.{copy_to_write, half_written, load_pair, next_flag, other_copy, saved_image, size_of, spare_of, with_spare}
use Rattle.tool_images.specs.ChangingImages.{Answers, IsSafe, IsSafeAt, edited, set_of, then_written, written}
use Rattle.tool_images.specs.declared.change.Edit.{Edit}
use Rattle.tool_images.specs.declared.error.ToolError.{ToolError}
use Rattle.envtools.proofs.SavingLemmas.{front_may_stand, spare-is-written}

-- ---- a write that breaks off

safe-at : (order : ByteOrder) (first second : List ℕ) (s : LoadedShown) (w : Which) (bytes : List ℕ) (n : ℕ) → load_of order first (Some second) ≡ Ok s
    → (load_pair order (with_spare w first second (half_written (spare_of w first second) n bytes)) ≡ Ok s) ⊎ (is_right order 5 (half_written (spare_of w first second) n bytes) ≡ true)
    → IsSafeAt order first second (other_copy w) bytes n
safe-at order first second s First bytes n h (inl kept) = inl (kept ∙ sym h)
safe-at order first second s First bytes n h (inr right) = inr right
safe-at order first second s Second bytes n h (inl kept) = inl (kept ∙ sym h)
safe-at order first second s Second bytes n h (inr right) = inr right

two : {A B E : Type 0} (x y : A × B) (r : Result (A × B) E) → r ≡ Ok x → r ≡ Ok y → (x.0 ≡ y.0) × (x.1 ≡ y.1)
two x y r p q = (cc, cc)

-- what is written of a loaded pair
module _ (order : ByteOrder) (first second : List ℕ) (s : LoadedShown) (which : Which) (bytes : List ℕ) (h : load_of order first (Some second) ≡ Ok s) where
  written-safe : (env : List Pair) → written s env ≡ Ok (which, bytes) → (n : ℕ) → IsSafeAt order first second which bytes n
  written-safe env is n = by (nat_lt (size_of s) (needed (next_flag s.flag) env)) refl
    where
      by : (over : Bool) → nat_lt (size_of s) (needed (next_flag s.flag) env) ≡ over → IsSafeAt order first second which bytes n
      by true e = let bad = rw e at is in cc
      by false e =
          let good = rw e at is in
          let fits : needed (next_flag s.flag) env ≤ size_of s = grind (arith, nat_tests) in
          let same = two (copy_to_write s, saved_image env s) (which, bytes) (Ok (copy_to_write s, saved_image env s)) refl good in
          let at : IsSafeAt order first second (other_copy s.which) (saved_image env s) n =
          safe-at order first second s s.which (saved_image env s) n h (front_may_stand order first second s env n h fits) in
          subst (λ (w : Which). IsSafeAt order first second w bytes n) (sym (spare-is-written order first second s h) ∙ same.0)
          (subst (λ (b : List ℕ). IsSafeAt order first second (other_copy s.which) b n) same.1 at)

  edited-safe : (answer : Result (List Pair) ToolError) → then_written s answer ≡ Ok (which, bytes) → IsSafe order first (Some second) which bytes
  edited-safe (Ok env) is = written-safe env is
  edited-safe (Err error) is = cc

pub set-safe : (order : ByteOrder) (first : List ℕ) (second : Option (List ℕ)) (change : Edit) (which : Which) (bytes : List ℕ) → set_of order first second change ≡ Ok (which, bytes)
    → IsSafe order first second which bytes
set-safe order first None change which bytes h = tt
set-safe order first (Some second) change which bytes h = by (load_of order first (Some second)) refl
  where
    by : (answer : Result LoadedShown ImageError) → load_of order first (Some second) ≡ answer → IsSafe order first (Some second) which bytes
    by (Err e) is = let bad = rw is at h in cc
    by (Ok s) is = let good = rw is at h in edited-safe order first second s which bytes is (edited (env_of (pairs_of s.body)) change) good

-- the same of what a call answered
pub answered-safe : (order : ByteOrder) (first : List ℕ) (second : Option (List ℕ)) (change : Edit) (loaded : Result LoadedShown ImageError) (r : Result (Which × Vec ℕ Global) ToolError)
    → Answers loaded (set_of order first second change) r → IfOk r (λ w. IsSafe order first second w.0 w.1.items)
answered-safe order first second change loaded (Ok w) h = set-safe order first second change w.0 w.1.items h
answered-safe order first second change loaded (Err e) h = tt
