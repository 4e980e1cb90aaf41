-- What is said of a shell, as contracts see it.
use Rattle.std.proofs.Common.{◌≡◌, Bool, true, false, List, [], ◌∷◌, Option, refl, ap, ◌∙◌, if◌then◌else◌}
use Rattle.std.specs.Prelude.{filter}
use Rattle.hushcheck.specs.Remarks.{all_found, found_at, remark}
use Rattle.hushcheck.specs.WarningsByShell.{tells_remark, told_by}
use Rattle.hushcheck.specs.declared.remark.Found.{Found}
use Rattle.rehearse_terms.specs.declared.shell.Shell.{Shell}

module _ (shell : Option Shell) where
  abbrev pub is_told : Found → Bool
  is_told found = tells_remark shell (remark found.remark)

  step : (b : Bool) (x : Found) (xs : List Found) → all_found (if b then x ∷ xs else xs) ≡ (if b then found_at x ∷ all_found xs else all_found xs)
  step true x xs = refl
  step false x xs = refl

  pub told_shown : (xs : List Found) → all_found (filter is_told xs) ≡ told_by shell (all_found xs)
  told_shown [] = refl
  told_shown (x ∷ xs) = step (is_told x) x (filter is_told xs) ∙ ap (λ r. if is_told x then found_at x ∷ r else r) (told_shown xs)
