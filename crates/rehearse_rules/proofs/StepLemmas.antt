-- The steps that are begun before a device command asks are steps of each word that continues from there.
use Rattle.std.proofs.Common.{[], ◌∷◌, ◌++◌, refl, sym, ap, subst, ◌≡◌, ◌≤◌, arith}
use Rattle.rehearse_terms.specs.Outcomes.{OutcomeWord, Success, Failure, common_prefix}
use Rattle.rehearse_terms.specs.State.{start}
use Rattle.rehearse_rules.specs.Execution.{Answer, Normal, Exit, Ended, Dry}
use Rattle.rehearse_rules.specs.Runs.{Task, run_on, state_of, steps, asked}
use Rattle.rehearse_rules.proofs.TakenOutcomes.{Extends}
use Rattle.rehearse_rules.proofs.TaskChoices.{Keeps-run_on}

steps-extend : (x : OutcomeWord) (a b : Answer) → Extends x a b → (state_of a).steps ≤ (state_of b).steps
steps-extend x (Normal t) b h = rw h (omega arith)
steps-extend x (Exit t) b h = rw h (omega arith)
steps-extend x (Ended ending t) b h = rw h (omega arith)
steps-extend x (Dry t) b h = h.1

pub asked_in_front : (task : Task) (p x : OutcomeWord) → asked task p ≤ steps task (p ++ x)
asked_in_front task p x = steps-extend x (run_on task p) (run_on task (p ++ x)) ((Keeps-run_on task (start task.written task.environment p)).1 x)

-- what both words start with starts the second
shared_in_front : (u v : OutcomeWord) → (x : OutcomeWord) × (v ≡ common_prefix u v ++ x)
shared_in_front [] v = (v, refl)
shared_in_front (c ∷ u) [] = ([], refl)
shared_in_front (Success ∷ u) (Success ∷ v) = let r = shared_in_front u v in (r.0, ap (λ (w : OutcomeWord). Success ∷ w) r.1)
shared_in_front (Success ∷ u) (Failure ∷ v) = (Failure ∷ v, refl)
shared_in_front (Failure ∷ u) (Success ∷ v) = (Success ∷ v, refl)
shared_in_front (Failure ∷ u) (Failure ∷ v) = let r = shared_in_front u v in (r.0, ap (λ (w : OutcomeWord). Failure ∷ w) r.1)

pub shared_is_within : (task : Task) (u v : OutcomeWord) → asked task (common_prefix u v) ≤ steps task v
shared_is_within task u v =
    let r = shared_in_front u v in
    subst (λ (w : OutcomeWord). asked task (common_prefix u v) ≤ steps task w) (sym r.1) (asked_in_front task (common_prefix u v) r.0)
