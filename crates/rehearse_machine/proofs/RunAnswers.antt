-- What a `run` answers: never that `exit` leaves the text that is running. A compound command around it changes nothing.
use Rattle.std.proofs.Common.{Bool, true, false, List, [], ◌∷◌, Option, Some, None, refl, ◌≡◌, nat_eq}
use Rattle.rehearse_terms.specs.State.{Text, State, get}
use Rattle.rehearse_terms.specs.declared.shell.Shell.{Shell}
use Rattle.rehearse_terms.specs.declared.shell.Shell.TheVariants.{Profile, Old2023, Old2025, Modern2025}
use Rattle.rehearse_rules.specs.Execution.{Limits, Answer, Normal, Exit, Ended, Dry, set_status, text_failed, text_end, compound, run_all, started_text}
use Rattle.rehearse_machine.specs.Frames.{RunNames}
use Rattle.rehearse_machine.specs.Meaning.{full, first_or_next, resume}

-- no `exit` is on its way outwards
abbrev pub HasNoExit : Answer → Type 0
HasNoExit (Normal s) = Unit {0}
HasNoExit (Exit s) = ⊥
HasNoExit (Ended ending s) = Unit {0}
HasNoExit (Dry s) = Unit {0}

of_both : (b : Bool) (x y : Answer) → HasNoExit x → HasNoExit y → HasNoExit (elim b [ true ↦ x | false ↦ y ])
of_both true x y p q = p
of_both false x y p q = q

of_found : (o : Option Text) (x : Answer) (y : Text → Answer) → HasNoExit x → ((t : Text) → HasNoExit (y t)) → HasNoExit (elim o [ None ↦ x | Some text ↦ y text ])
of_found None x y p q = p
of_found (Some t) x y p q = q t

of_first : (a : Answer) (next : State → Answer) → ((s : State) → HasNoExit (next s)) → HasNoExit (first_or_next a next)
of_first (Normal s) next h = h s
of_first (Exit s) next h = of_both (nat_eq s.memory.status 0) (next s) (Normal s) (h s) tt
of_first (Ended ending s) next h = tt
of_first (Dry s) next h = tt

pub no_compound : (shell : Shell) (a : Answer) → HasNoExit a → compound shell a ≡ a
no_compound Profile a h = refl
no_compound Old2023 a h = refl
no_compound Old2025 a h = refl
no_compound Modern2025 (Normal s) h = refl
no_compound Modern2025 (Exit s) h = absurd h
no_compound Modern2025 (Ended ending s) h = refl
no_compound Modern2025 (Dry s) h = refl

module _ (limits : Limits) where
  pub of_text_end : (a : Answer) (next : State → Answer) → ((s : State) → HasNoExit (next s)) → HasNoExit (text_end limits.shell a next)
  of_text_end (Normal s) next h = of_both (nat_eq s.memory.status 0) (next s) (Normal (text_failed limits.shell s)) (h s) tt
  of_text_end (Exit s) next h = of_both (nat_eq s.memory.status 0) (next s) (Normal s) (h s) tt
  of_text_end (Ended ending s) next h = tt
  of_text_end (Dry s) next h = tt

  of_names : (names : List Text) (s : State) → HasNoExit (run_all limits (full limits) names s)
  of_names [] s = tt
  of_names (name ∷ names) s =
      of_found (get s.memory.environment name) (Normal (set_status 1 s)) (λ text. text_end limits.shell (started_text limits (full limits) name text s) (run_all limits (full limits) names)) tt
      (λ text. of_text_end (started_text limits (full limits) name text s) (run_all limits (full limits) names) (of_names names))

  -- a `run` that begins
  pub of_run : (names : List Text) (a : Answer) → HasNoExit (resume limits (RunNames names) a)
  of_run names a = of_first a (run_all limits (full limits) names) (of_names names)
