-- What a text that stopped says of the run on its outcomes.
use Rattle.std.proofs.Common.{◌≡◌, ◌<◌, [], ◌∷◌, ◌++◌, length, sym, ap, ◌∙◌, append_assoc, append-nil}
use Rattle.bootstore_state.specs.Moment.{Moment}
use Rattle.bootstore_state.specs.StoredState.{state_at}
use Rattle.rehearse_terms.specs.Outcomes.{OutcomeWord, Outcome, Short}
use Rattle.rehearse_terms.specs.State.{State}
use Rattle.rehearse_rules.specs.Execution.{Answer, Normal, Exit, Ended, Dry}
use Rattle.rehearse_rules.specs.Runs.{Task, run_on, kind, kind_of}
use Rattle.rehearse_rules.proofs.TaskChoices.{dry_within}
use Rattle.rehearse_machine.specs.Came.{Wants, settled}
use Rattle.rehearse_machine.specs.Machine.{Stops, asked_at}
use Rattle.rehearse_machine.specs.StoppedTexts.{StoppedAt}
use Rattle.rehearse_machine.specs.declared.rehearsal.Stop.{Stop}
use Rattle.rehearse_machine.specs.declared.rehearsal.Stop.TheVariants.{Asks, Ends}

-- a run that needs an outcome
wants : (a : Answer) (s : State) → settled a ≡ Wants s → a ≡ Dry s
wants (Normal t) s e = absurd (let f = e in cc)
wants (Exit t) s e = absurd (let f = e in cc)
wants (Ended ending t) s e = absurd (let f = e in cc)
wants (Dry t) s e = let f = e in cc

-- a run that stopped at a device command that asks found no outcome left
pub dry_there : (task : Task) (p : OutcomeWord) (m : Moment) → StoppedAt task p Asks m → run_on task p ≡ Dry (state_at m [])
dry_there task p m h = wants (run_on task p) (state_at m []) (ap (λ (v : OutcomeWord). settled (run_on task v)) (sym (append-nil p)) ∙ h.2)

-- a device command that asks is below the device bound
pub asked_within : (task : Task) (p : OutcomeWord) (m : Moment) → StoppedAt task p Asks m → length p < task.limits.device_bound
asked_within task p m h = dry_within task p (state_at m []) (dry_there task p m h)

pub asked_kind : (task : Task) (p : OutcomeWord) (m : Moment) → StoppedAt task p Asks m → kind task p ≡ Short
asked_kind task p m h = ap kind_of (dry_there task p m h)

-- if the command that asks takes an outcome, the text means what follows it
pub stopped_on : (task : Task) (p : OutcomeWord) (m n : Moment) (d : Outcome) (stop : Stop) → StoppedAt task p Asks m → Stops task.limits stop (λ w. asked_at task.limits m (d ∷ w)) n → StoppedAt task (p ++ d ∷ []) stop n
stopped_on task p m n d Asks h k = (k.0, λ w. ap (λ (v : OutcomeWord). settled (run_on task v)) (append_assoc p (d ∷ []) w) ∙ h.1 (d ∷ w) ∙ k.1 w, ap (λ (v : OutcomeWord). settled (run_on task v)) (append_assoc p (d ∷ []) []) ∙ h.1 (d ∷ []) ∙ k.2)
stopped_on task p m n d (Ends halt) h k = λ w. ap (λ (v : OutcomeWord). settled (run_on task v)) (append_assoc p (d ∷ []) w) ∙ h.1 (d ∷ w) ∙ k w
