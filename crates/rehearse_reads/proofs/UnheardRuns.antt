-- A run has the same result whether the text that it writes is kept or dropped.
use Rattle.std.proofs.Common.{◌≡◌, ℕ, List, [], ◌∷◌, Option, Some, None, refl, sym, ◌∙◌, arith, inl, inr, ⊎_elim}
use Rattle.rehearse_terms.specs.Outcomes.{OutcomeWord}
use Rattle.rehearse_terms.specs.State.{Variables, State, start}
use Rattle.rehearse_terms.specs.declared.written.Written.{Written}
use Rattle.rehearse_terms.specs.declared.written.Written.TheVariants.{Dropped}
use Rattle.rehearse_rules.specs.Execution.{Limits, Answer, Normal, Exit, Ended, Dry, Ending, End, CutDevices, CutSteps, Unknown, Syntax, Unsupported, Panic, Size, Finished}
use Rattle.rehearse_rules.specs.Runs.{Task, run_on, unheard, state_of, ending_of}
use Rattle.rehearse_reads.specs.Keys.{Key, Environment, Local, AnswerTo, Succeeded, Status, Access, Reads, Writes, IsAmong, AgreeAt, keys_read, known_after}
use Rattle.rehearse_reads.specs.Accesses.{run_text_accesses}
use Rattle.rehearse_reads.specs.Alike.{ended_with, IsCutBy, IsCutHere, HaveSameEnd, EndAlike, same_end, end_cut, end_beyond}
use Rattle.rehearse_reads.specs.Laws.{UnheardRunsGoAlike}
use Rattle.rehearse_reads.proofs.KeysRead.{all_right, all_itself}
use Rattle.rehearse_reads.proofs.AlikeRuns.{runs_end_alike}

-- what is known stays known
stays_known : (key : Key) (known : List Key) (accesses : List Access) → IsAmong key known → IsAmong key (known_after known accesses)
stays_known key known [] h = h
stays_known key known (Reads other ∷ accesses) h = stays_known key known accesses h
stays_known key known (Writes other ∷ accesses) h = stays_known key (other ∷ known) accesses (inr h)

-- the text is no key
starts_agree : (one other : Written) (environment : Variables) (w : OutcomeWord) (key : Key) → AgreeAt key (start one environment w) (start other environment w)
starts_agree one other environment w (Environment name) = refl
starts_agree one other environment w (Local name) = refl
starts_agree one other environment w (AnswerTo call) = refl
starts_agree one other environment w (Succeeded words) = refl
starts_agree one other environment w Status = refl

-- ---- from the same steps and the same log no bound prevents it

never_cut_by : (limits : Limits) (ending : Ending) → IsCutBy limits 0 0 [] [] ending → ⊥
never_cut_by limits (End status) h = h
never_cut_by limits CutDevices h = omega (arith, h)
never_cut_by limits CutSteps h = omega (arith, h)
never_cut_by limits (Unknown name) h = h
never_cut_by limits (Syntax name) h = h
never_cut_by limits (Unsupported name) h = h
never_cut_by limits (Panic name) h = h
never_cut_by limits Size h = h
never_cut_by limits (Finished finish name) h = h

never_cut : (limits : Limits) (a : Answer) → IsCutHere limits 0 0 [] [] a → ⊥
never_cut limits (Normal s) h = h
never_cut limits (Exit s) h = h
never_cut limits (Ended ending s) h = never_cut_by limits ending h
never_cut limits (Dry s) h = h

have_same_end : (limits : Limits) (known : List Key) (a b : Answer) → EndAlike limits 0 0 [] [] known a b → HaveSameEnd limits 0 0 [] [] known a b
have_same_end limits known a b (same_end h) = h
have_same_end limits known a b (end_cut h) = absurd (never_cut limits a h)
have_same_end limits known a b (end_beyond h) = absurd (⊎_elim (λ steps. omega (arith, steps.0)) (λ devices. omega (arith, devices.0)) h)

-- ---- how a run ends, by its status if its text has ended or asks

ending_by : Option Ending → (status : ℕ) → Ending
ending_by (Some ending) status = ending
ending_by None status = End status

ending_is : (a : Answer) → ending_of a ≡ ending_by (ended_with a) (state_of a).memory.status
unfolding ending_by
ending_is (Normal s) = refl
ending_is (Exit s) = refl
ending_is (Ended ending s) = refl
ending_is (Dry s) = refl

same_ending : (a b : Answer) → ended_with b ≡ ended_with a → (state_of b).memory.status ≡ (state_of a).memory.status → ending_of b ≡ ending_of a
same_ending a b ended status = ending_is b ∙ (λ i. ending_by (ended i) (status i)) ∙ sym (ending_is a)

-- ---- the two runs

module _ (task : Task) (w : OutcomeWord) where
  abbrev here : State
  here = start task.written task.environment w

  abbrev reached : List Access
  reached = run_text_accesses task.limits task.limits.step_bound task.name task.text here

  -- they agree on a key, if it is known at the start
  ends_with : (key : Key) → HaveSameEnd task.limits 0 0 [] [] (known_after (key ∷ keys_read reached) reached) (run_on task w) (run_on (unheard task) w)
  ends_with key =
      have_same_end task.limits (known_after (key ∷ keys_read reached) reached) (run_on task w) (run_on (unheard task) w)
      (runs_end_alike task.limits task.limits.step_bound task.name task.text (key ∷ keys_read reached) here (start Dropped task.environment w)
      (all_right (keys_read reached) (key ∷ []) (keys_read reached) (all_itself (keys_read reached))) (λ other h. starts_agree task.written Dropped task.environment w other) refl)

  agrees : (key : Key) → AgreeAt key (state_of (run_on task w)) (state_of (run_on (unheard task) w))
  agrees key = (ends_with key).keys key (stays_known key (key ∷ keys_read reached) reached (inl refl))

pub unheard_runs_go_alike : UnheardRunsGoAlike
unheard_runs_go_alike task w =
    let h = ends_with task w Status in
    record {
      kind = h.kind;
      ended = h.ended;
      ending = same_ending (run_on task w) (run_on (unheard task) w) h.ended (agrees task w Status);
      log = h.logs.goes_on_there ∙ sym h.logs.goes_on_here;
      steps = (let e : (state_of (run_on (unheard task) w)).steps ≡ (state_of (run_on task w)).steps = omega (arith, h.steps) in e);
      values = λ name. agrees task w (Environment name);
    }
