-- What is expected of a command that asks says which outcome counts.
use Rattle.std.proofs.Common.{refl, ◌≡◌, ◌∙◌, sym, ap, subst, Bool, true, false, List, [], ◌∷◌, ◌++◌, Option, nat_eq}
use Rattle.hushlang.specs.Tree.{Script}
use Rattle.bootstore_state.specs.Moment.{Moment}
use Rattle.bootstore_state.specs.StoredState.{state_at}
use Rattle.device_list.specs.DeviceList.{expected}
use Rattle.device_list.specs.declared.finish.BoardEnd.{BoardEnd}
use Rattle.rehearse_terms.specs.Outcomes.{OutcomeWord, Outcome, Success, Failure}
use Rattle.rehearse_terms.specs.State.{Text, State, LoggedCommand}
use Rattle.rehearse_terms.specs.declared.shell.Shell.{Shell}
use Rattle.rehearse_terms.specs.declared.shell.Shell.TheVariants.{Profile, Old2023, Old2025, Modern2025}
use Rattle.rehearse_rules.specs.Execution.{chosen, run_one, Limits, Answer, Normal, Exit, Ended, Dry, take_outcome, run_all, for_each, outcome_when, succeeds, block_skipped, compound, compound_end, go_on, file_follows, sourced, left_to_prompt}
use Rattle.rehearse_rules.specs.Expected.{Answered, asked_in}
use Rattle.rehearse_rules.specs.Runs.{Task, run_on, state_of}
use Rattle.rehearse_rules.proofs.TakenOutcomes.{KeepsAll, HasAnswered, Track-of, answered_on, go_on-answered, text_end-answered, outcome_answers, Keeps-script, Keeps-joined, Keeps-arms, Keeps-exec, Keeps-run, Keeps-turns, Keeps-for, Keeps-if, Keeps-stays, after_condition, Keeps-after_condition, Keeps-skip, Keeps-chosen, Keeps-one_file, Keeps-file}
use Rattle.rehearse_rules.proofs.UnexpectedAnswers.{AsksAt, ExpectedAs, asks_at, expected_at}
use Rattle.rehearse_machine.specs.Came.{Came, Over, Wants, settled}
use Rattle.rehearse_machine.specs.Frames.{ChosenFile, Frame, Lists, Linked, IfCondition, LoopCondition, LoopBody, ForBody, RunNames, RunText, CommandEnd, RunFile, FileText, with_file}
use Rattle.rehearse_machine.specs.Places.{PlaceNext, next_of, frames_of}
use Rattle.rehearse_machine.specs.Meaning.{first_or_next, full, script, joined_of, arms_of, again, resume, continue, comes_to}
use Rattle.rehearse_machine.specs.Machine.{Asking, IsAsking, asked_at}
use Rattle.rehearse_machine.specs.Expecting.{Expects, call_of}
use Rattle.rehearse_machine.specs.StoppedTexts.{StoppedAt}
use Rattle.rehearse_machine.specs.declared.rehearsal.Stop.TheVariants.{Asks}
use Rattle.rehearse_machine.proofs.AskingCommandLemmas.{asks_anew}
use Rattle.rehearse_machine.proofs.StoppedTextLemmas.{dry_there, asked_kind}

-- ---- what a command has in the log, it has in the log of what follows

module _ (limits : Limits) (call : List Text) (d : Outcome) (log : List LoggedCommand) where
  abbrev Has : Answer → Type 0
  Has a = HasAnswered call d log (state_of a).log

  kept_full : (a : Script) → KeepsAll limits (full limits a)
  kept_full = Keeps-exec limits limits.step_bound

  kept_script : (a : Script) → KeepsAll limits (script limits a)
  kept_script = Keeps-script limits limits.step_bound (full limits) kept_full

  kept_names : (names : List Text) → KeepsAll limits (run_all limits (full limits) names)
  kept_names = Keeps-run limits (full limits) kept_full

  kept_again : (until : Bool) (c b : Script) → KeepsAll limits (again limits until c b)
  kept_again until c b u = Keeps-turns limits limits.step_bound until (script limits c) (script limits b) (kept_script c) (kept_script b) u.memory.status u

  first_answered : (a : Answer) (g : State → Answer) → KeepsAll limits g → Has a → Has (first_or_next a g)
  first_answered (Normal t) g k h = answered_on call d log t (state_of (g t)) (Track-of limits.device_bound t (g t) (k t).0) h
  first_answered (Exit t) g k h =
      let x : Answer = first_or_next (Exit t) g in
      answered_on call d log t (state_of x) (Track-of limits.device_bound t x (Keeps-if limits.device_bound t (nat_eq t.memory.status 0) g Normal (k t) (Keeps-stays limits.device_bound t)).0) h
  first_answered (Ended ending t) g k h = h
  first_answered (Dry t) g k h = h

  -- also if `exit` leaves a compound command
  end_answered : (a : Answer) → Has a → Has (compound_end a)
  end_answered (Normal t) h = h
  end_answered (Exit t) h = h
  end_answered (Ended ending t) h = h
  end_answered (Dry t) h = h

  compound_answered : (shell : Shell) (a : Answer) → Has a → Has (compound shell a)
  compound_answered Profile a h = h
  compound_answered Old2023 a h = h
  compound_answered Old2025 a h = h
  compound_answered Modern2025 a h = end_answered a h

  prompt_answered : (a : Answer) → Has a → Has (left_to_prompt a)
  prompt_answered (Normal t) h = h
  prompt_answered (Exit t) h = h
  prompt_answered (Ended ending t) h = h
  prompt_answered (Dry t) h = h

  sourced_answered : (shell : Shell) (a : Answer) → Has a → Has (sourced shell a)
  sourced_answered Profile a h = h
  sourced_answered Old2023 a h = h
  sourced_answered Old2025 a h = h
  sourced_answered Modern2025 a h = prompt_answered a h

  resume_answered : (f : Frame) (a : Answer) → Has a → Has (resume limits f a)
  resume_answered (Lists lists) a h = go_on-answered limits.device_bound call d log a (script limits lists) (kept_script lists) h
  resume_answered (Linked links) a h = go_on-answered limits.device_bound call d log a (joined_of limits links) (Keeps-joined limits limits.step_bound (full limits) kept_full links) h
  resume_answered (IfCondition c arms) a h =
      let rest : State → Answer = λ t. elim (nat_eq t.memory.status 0) [ true ↦ script limits c t | false ↦ arms_of limits arms (block_skipped limits.shell c t) ] in
      compound_answered limits.shell (go_on a rest)
      (go_on-answered limits.device_bound call d log a rest
      (λ t. Keeps-if limits.device_bound t (nat_eq t.memory.status 0) (script limits c) (λ u. arms_of limits arms (block_skipped limits.shell c u)) (kept_script c t) (Keeps-skip limits c (arms_of limits arms) (Keeps-arms limits limits.step_bound (full limits) kept_full arms) t)) h)
  resume_answered (LoopCondition until c b last) a h =
      let rest : State → Answer = after_condition limits until (script limits b) (again limits until c b) last in
      compound_answered limits.shell (go_on a rest)
      (go_on-answered limits.device_bound call d log a rest (Keeps-after_condition limits until (script limits b) (again limits until c b) (kept_script b) (kept_again until c b) last) h)
  resume_answered (LoopBody until c b) a h =
      compound_answered limits.shell (go_on a (again limits until c b)) (go_on-answered limits.device_bound call d log a (again limits until c b) (kept_again until c b) h)
  resume_answered (ForBody name values body) a h =
      let rest : State → Answer = λ t. for_each limits.shell name (script limits body) t.memory.status values t in
      compound_answered limits.shell (go_on a rest)
      (go_on-answered limits.device_bound call d log a rest (λ t. Keeps-for limits name (script limits body) (kept_script body) t.memory.status values t) h)
  resume_answered (RunNames names) a h = first_answered a (run_all limits (full limits) names) (kept_names names) h
  resume_answered (RunText names) a h = text_end-answered limits.device_bound limits.shell call d log a (run_all limits (full limits) names) (kept_names names) h
  resume_answered (RunFile name others before) a h = go_on-answered limits.device_bound call d log a (file_follows limits (full limits) name others before) (Keeps-file limits (full limits) kept_full name others before) h
  resume_answered (ChosenFile name other others before) a h =
      let next : State → Answer = run_one limits (full limits) other others before in
      go_on-answered limits.device_bound call d log a (chosen limits (full limits) name before next) (Keeps-chosen limits (full limits) kept_full name before next (Keeps-one_file limits (full limits) kept_full other others before)) h
  resume_answered FileText a h = text_end-answered limits.device_bound limits.shell call d log (sourced limits.shell a) Normal (Keeps-stays limits.device_bound) (sourced_answered limits.shell a h)
  resume_answered CommandEnd a h = compound_answered limits.shell a h

  -- the log of the result of a run
  abbrev log_of : Came → List LoggedCommand
  log_of (Over ending s) = s.log
  log_of (Wants s) = s.log

  settled_log : (a : Answer) → log_of (settled a) ≡ (state_of a).log
  settled_log (Normal t) = refl
  settled_log (Exit t) = refl
  settled_log (Ended ending t) = refl
  settled_log (Dry t) = refl

  continue_answered : (fs : List Frame) (a : Answer) → Has a → HasAnswered call d log (log_of (continue limits fs a))
  continue_answered [] a h = subst (HasAnswered call d log) (sym (settled_log a)) h
  continue_answered (f ∷ fs) a h = continue_answered fs (resume limits f a) (resume_answered f a h)

-- ---- the words of the command that asks are those that the log has

head_same : (l : List Answered) (a b : Answered) (x y : List Answered) → l ++ a ∷ x ≡ l ++ b ∷ y → a ≡ b
head_same [] a b x y e = cc
head_same (c ∷ l) a b x y e = head_same l a b x y (let f = e in cc)

call_same : (task : Task) (p : OutcomeWord) (m : Moment) → StoppedAt task p Asks m → (asking : Asking task.limits m) → asking.request.again ≡ false → (asks : AsksAt task p) → asks.call ≡ call_of asking.request
unfolding asked_at
call_same task p m stopped asking fresh asks =
    let limits : Limits = task.limits in
    let call : List Text = call_of asking.request in
    let s : State = state_at m (Success ∷ []) in
    let a : Answer = take_outcome asking.request (Success ∷ []) s in
    let below : List Frame = with_file s.memory.status asking.request.effect.runs (frames_of m.frames) in
    let has : HasAnswered call Success m.log (log_of limits call Success m.log (continue limits below a)) =
    continue_answered limits call Success m.log below a (outcome_answers limits s asking.request Success [] fresh) in
    let comes : settled (run_on task (p ++ Success ∷ [])) ≡ continue limits below a =
    stopped.1 (Success ∷ []) ∙ ap (λ (x : PlaceNext). comes_to limits (Success ∷ []) (next_of x)) (asking.again (Success ∷ [])) in
    let log_there : (state_of (run_on task (p ++ Success ∷ []))).log ≡ log_of limits call Success m.log (continue limits below a) =
    sym (settled_log limits call Success m.log (run_on task (p ++ Success ∷ []))) ∙ ap (log_of limits call Success m.log) comes in
    let log_here : (state_of (run_on task p)).log ≡ m.log = ap (λ (x : Answer). (state_of x).log) (dry_there task p m stopped) in
    let one : asked_in m.log ++ (true, call) ∷ has.further ≡ asked_in m.log ++ (true, asks.call) ∷ [] =
    sym has.grows ∙ sym (ap asked_in log_there) ∙ asks.grows Success ∙ ap (λ (l : List LoggedCommand). asked_in l ++ (true, asks.call) ∷ []) log_here in
    sym (ap (λ (x : Answered). x.1) (head_same (asked_in m.log) (true, call) (true, asks.call) has.further [] one))

-- ---- so one outcome is as expected, or both are

pub expected_there : (task : Task) (p : OutcomeWord) (m : Moment) (answer : Option Bool) → StoppedAt task p Asks m → Expects task.limits m answer → ExpectedAs task p answer
unfolding IsAsking
expected_there task p m answer stopped expects =
    let asking : Asking task.limits m = asking_at task.limits m stopped.0 in
    let asks : AsksAt task p = asks_at task p (asked_kind task p m stopped) in
    let same : answer ≡ expected task.limits.devices asks.call = expects asking ∙ sym (ap (expected task.limits.devices) (call_same task p m stopped asking (asks_anew task.limits m asking) asks)) in
    subst (ExpectedAs task p) (sym same) (expected_at task p asks (expected task.limits.devices asks.call) refl)
  where
    asking_at : (limits : Limits) (n : Moment) → IsAsking limits n → Asking limits n
    asking_at limits n asks = asks
